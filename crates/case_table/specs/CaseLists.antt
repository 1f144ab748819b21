-- The lists that the tables hold. A case is three small numbers.
use Rattle.std.specs.Prelude.{ℕ, ◌+◌, ◌-◌, bit_xor, List, [], ◌∷◌, ◌++◌, map}
use Rattle.std.specs.List.{flat_map, range_with_len}

abbrev pub case : ℕ → ℕ → ℕ → List ℕ
case i j k = i ∷ j ∷ k ∷ []

-- each two of nine rows, as `case i j 0` with i below j, in order
unfoldable pub row_pair_list : List (List ℕ)
row_pair_list = flat_map (λ i. map (λ j. case i j 0) (range_with_len (i + 1) (8 - i))) (range_with_len 0 9)

-- the axes that may separate a triangle and a cube: `case 0 0 k` is the unit vector k, `case 1 0 0` the triangle's normal, and `case 2 i k` the product of edge i and the unit vector k
unfoldable pub axis_case_list : List (List ℕ)
axis_case_list =
    map (λ k. case 0 0 k) (range_with_len 0 3)
    ++ case 1 0 0 ∷ flat_map (λ i. map (λ k. case 2 i k) (range_with_len 0 3)) (range_with_len 0 3)

-- the orders of a node's children: for each g, whose bits say along which axes a ray goes down, `case (i xor g) 0 0` for i from 0 to 7
unfoldable pub octant_order_list : List (List ℕ)
octant_order_list = flat_map (λ g. map (λ i. case (bit_xor i g) 0 0) (range_with_len 0 8)) (range_with_len 0 8)
