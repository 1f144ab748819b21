-- The values of a binary body, and the tokens that are written for them.
use Rattle.std.specs.Prelude.{ℕ, ◌-◌, ◌^◌, Bool, false, nat_le, if◌then◌else◌, List, ◌++◌, slice_index, codes, decimal}
use Rattle.std.specs.Int.{w16, w32, from_le_bytes}
use Rattle.ply_reader.specs.declared.properties.Scalar.{Scalar}
use Rattle.ply_reader.specs.declared.properties.Scalar.TheVariants.{Int8, UInt8, Int16, UInt16, Int32, UInt32, Float32, Float64}
use Rattle.ply_reader.specs.Names.{is_whole_type}

-- how many bytes a value has
abbrev pub size_of : Scalar → ℕ
size_of Int8 = 1
size_of UInt8 = 1
size_of Int16 = 2
size_of UInt16 = 2
size_of Int32 = 4
size_of UInt32 = 4
size_of Float32 = 4
size_of Float64 = 8

-- the number that the bytes of a whole value write, the least byte first; a float is not read
abbrev pub number_of : Scalar → List ℕ → ℕ
number_of Int8 bytes = slice_index bytes 0
number_of UInt8 bytes = slice_index bytes 0
number_of Int16 bytes = from_le_bytes w16 bytes
number_of UInt16 bytes = from_le_bytes w16 bytes
number_of Int32 bytes = from_le_bytes w32 bytes
number_of UInt32 bytes = from_le_bytes w32 bytes
number_of Float32 bytes = 0
number_of Float64 bytes = 0

-- the number stands for a negative one: in two's complement, its highest bit is set
abbrev pub is_negative : Scalar → ℕ → Bool
is_negative Int8 n = nat_le (2 ^ 7) n
is_negative UInt8 n = false
is_negative Int16 n = nat_le (2 ^ 15) n
is_negative UInt16 n = false
is_negative Int32 n = nat_le (2 ^ 31) n
is_negative UInt32 n = false
is_negative Float32 n = false
is_negative Float64 n = false

-- how far a negative number and the one that stands for it are apart
abbrev pub span_of : Scalar → ℕ
span_of Int8 = 2 ^ 8
span_of UInt8 = 2 ^ 8
span_of Int16 = 2 ^ 16
span_of UInt16 = 2 ^ 16
span_of Int32 = 2 ^ 32
span_of UInt32 = 2 ^ 32
span_of Float32 = 2 ^ 32
span_of Float64 = 2 ^ 32

-- the digits of a whole value, with a sign where it is negative
unfoldable pub number_text : Scalar → ℕ → List ℕ
number_text values n = if is_negative values n then codes "-" ++ decimal (span_of values - n) else decimal n

-- a value as a token and LF: a float is no coordinate, and is not looked at elsewhere
unfoldable pub token_of : Bool → Scalar → List ℕ → List ℕ
token_of coordinate values bytes =
    if is_whole_type values then number_text values (number_of values bytes) ++ codes "\n" else
    if coordinate then codes "nan\n" else codes "0\n"
