-- What walks down a file's words answer.
use Rattle.std.specs.Prelude.{◌≡◌, ℕ, zero, suc, ◌-◌, ◌/◌, ◌%◌, ◌^◌, ◌<◌, ◌≤◌, ◌==◌, ◌&&◌, ◌||◌, ◌⊎◌, ⊤, not, nat_lt, nat_le, Bool, true, false, cond, is_some, List, [], ◌∷◌, slice_index, Option, None, Some, Result, Ok, Err, IfSome}
use Rattle.octree_specs.specs.Cells.{Cell}
use Rattle.octree_specs.specs.Checking.{mask_in, base_in}
use Rattle.octree_specs.specs.Formats.{face_leaves}
use Rattle.octree_specs.specs.Walking.{HasTree, HasMasks, child_number}
use Rattle.node_check.specs.declared.walking.Node.{Node}
use Rattle.node_check.specs.declared.walking.WalkFault.{WalkFault}
use Rattle.node_check.specs.declared.walking.WalkFault.TheVariants.{Failed, Refused}

-- the face that a map has for a code
unfoldable pub face_at : List Cell → ℕ → Option ℕ
face_at [] code = None
face_at (cell ∷ rest) code = cond (cell.code == code) (Some cell.face) (face_at rest code)

-- it is the word of this number, where the words are told
pub record IsWordOf (told : Option (List ℕ)) (records number word : ℕ) : Type 0 where
  pub there : number < records
  pub own : IfSome told (λ words. word ≡ slice_index words number)

-- whether a word has a bit for the child at this place
abbrev pub has_child : ℕ → ℕ → Bool
has_child word place = word / 2 ^ place % 2 == 1

-- the word has a bit for a child, and places that child at its own number or behind it
pub record IsAbove (told : Option (List ℕ)) (records number word : ℕ) : Type 0 where
  pub word_is : IsWordOf told records number word
  pub place : ℕ
  pub octant : place < 8
  pub child : has_child word place ≡ true
  pub late : number ≤ child_number word place

-- a walk refuses nothing but such a word
abbrev pub RefusesAbove : {T : Type 0} → Option (List ℕ) → ℕ → Result T WalkFault → Type 0
RefusesAbove told records (Ok answer) = ⊤
RefusesAbove told records (Err Failed) = ⊤
RefusesAbove told records (Err (Refused number word)) = IsAbove told records number word

-- the number to which masks and bases lead from a node's, so many levels down toward a code; none where a mask has no bit for it
unfoldable pub led_to : List ℕ → ℕ → ℕ → ℕ → Option ℕ
led_to words zero code number = Some number
led_to words (suc height) code number =
    let word = slice_index words number in
    let place = code / 8 ^ height % 8 in
    cond (has_child word place) (led_to words height code (child_number word place)) None

-- the word of a cell that keeps no face
abbrev pub keeps_face : ℕ → Bool
keeps_face word = (mask_in word == 1) && nat_le (base_in word) 4294967294

-- masks and bases lead to this word, and it is none of a cell
pub record IsNoCell (told : Option (List ℕ)) (records depth code number word : ℕ) : Type 0 where
  pub word_is : IsWordOf told records number word
  pub faceless : keeps_face word ≡ false
  pub led : IfSome told (λ words. led_to words depth code (records - 1) ≡ Some number)

-- a question for a face refuses nothing but such words
abbrev pub RefusesNoCell : {T : Type 0} → Option (List ℕ) → ℕ → ℕ → ℕ → Result T WalkFault → Type 0
RefusesNoCell told records depth code (Ok answer) = ⊤
RefusesNoCell told records depth code (Err Failed) = ⊤
RefusesNoCell told records depth code (Err (Refused number word)) = IsAbove told records number word ⊎ IsNoCell told records depth code number word

-- the words lead from the node with this number to the cells below it, and in format 2 to their own words
pub record LeadsOn (words : List ℕ) (format : ℕ) (cells : List Cell) (height node number : ℕ) : Type 0 where
  pub masks : HasMasks words cells height node number
  pub tree : format ≡ 2 → HasTree words (face_leaves cells) height node number

-- the answer of a walk down to the node just above a code's cell
abbrev pub WalksTo : List ℕ → ℕ → List Cell → ℕ → Result (Option Node) WalkFault → Type 0
WalksTo words format cells code (Ok (Some node)) = LeadsOn words format cells 1 (code / 8) node.number
WalksTo words format cells code (Ok None) = face_at cells code ≡ None
WalksTo words format cells code (Err Failed) = ⊤
WalksTo words format cells code (Err (Refused number word)) = ⊥

-- the answer that a map gives, unless a read failed
abbrev pub Gives : {T : Type 0} → T → Result T WalkFault → Type 0
Gives wanted (Ok answer) = answer ≡ wanted
Gives wanted (Err Failed) = ⊤
Gives wanted (Err (Refused number word)) = ⊥

-- the least code from a number on that a map has, if there is one
abbrev pub IsNext : List Cell → ℕ → Option ℕ → Type 0
IsNext cells from (Some code) = (from ≤ code) × (is_some (face_at cells code) ≡ true) × ((c : ℕ) → from ≤ c → c < code → face_at cells c ≡ None)
IsNext cells from None = (c : ℕ) → from ≤ c → face_at cells c ≡ None

abbrev pub GivesNext : List Cell → ℕ → Result (Option ℕ) WalkFault → Type 0
GivesNext cells from (Ok answer) = IsNext cells from answer
GivesNext cells from (Err Failed) = ⊤
GivesNext cells from (Err (Refused number word)) = ⊥

-- the same below one node
abbrev pub IsNextUnder : List Cell → ℕ → ℕ → ℕ → Option ℕ → Type 0
IsNextUnder cells height node from (Some code) = (is_some (face_at cells code) ≡ true) × ((c : ℕ) → c / 8 ^ height ≡ node → from ≤ c → c < code → face_at cells c ≡ None)
IsNextUnder cells height node from None = (c : ℕ) → c / 8 ^ height ≡ node → from ≤ c → face_at cells c ≡ None

abbrev pub GivesNextUnder : List Cell → ℕ → ℕ → ℕ → Result (Option ℕ) WalkFault → Type 0
GivesNextUnder cells height node from (Ok answer) = IsNextUnder cells height node from answer
GivesNextUnder cells height node from (Err Failed) = ⊤
GivesNextUnder cells height node from (Err (Refused number word)) = ⊥

-- a fact of a node that was walked to
abbrev pub IfWalked : Result (Option Node) WalkFault → (Node → Type 0) → Type 0
IfWalked (Ok (Some node)) P = P node
IfWalked (Ok None) P = ⊤
IfWalked (Err fault) P = ⊤

-- a child before the least node that is asked for, or one that is not there
abbrev pub passes : (word place child least : ℕ) → Bool
passes word place child least = nat_lt child least || not (has_child word place)
