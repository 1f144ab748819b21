-- Small examples, computed from the definitions alone: what each definition says of a case that was worked out by hand.
use Rattle.std.proofs.Common.{◌≡◌, refl, true, false, None, Some, Ok, Err, codes, pos, negsuc}
use Rattle.ply_text.specs.declared.numbers.NumberFault.TheVariants.{NotWhole, OutOfRange}
use Rattle.ply_text.specs.declared.numerals.Sign.TheVariants.{Unsigned, Plus, Minus}
use Rattle.ply_text.specs.Numerals.{Numeral, spelled}
use Rattle.ply_text.specs.Scaled.{number_of}
use Rattle.ply_text.specs.Wholes.{whole_of}

-- -0.19
small : Numeral
small = record { sign = Minus; whole = codes "0"; fraction = Some (codes "19"); exponent = None }

small_text : spelled small ≡ codes "-0.19"
unfolding small spelled
small_text = refl

-- ten times -0.19 is -1.9, which is not whole, and -1 when it is cut toward zero
small_is_not_whole : number_of small 1 false ≡ Err NotWhole
unfolding small number_of
small_is_not_whole = refl

small_is_cut : number_of small 1 true ≡ Ok (negsuc 0)
unfolding small number_of
small_is_cut = refl

-- +7.50e-1, times a hundred, is 75
seventy_five : Numeral
seventy_five = record { sign = Plus; whole = codes "7"; fraction = Some (codes "50"); exponent = Some (record { letter = 101; sign = Minus; digits = codes "1" }) }

seventy_five_text : spelled seventy_five ≡ codes "+7.50e-1"
unfolding seventy_five spelled
seventy_five_text = refl

seventy_five_is_whole : number_of seventy_five 2 false ≡ Ok (pos 75)
unfolding seventy_five number_of
seventy_five_is_whole = refl

-- 2^30 is the largest size
largest_is_read : number_of (record { sign = Minus; whole = codes "1073741824"; fraction = None; exponent = None }) 0 false ≡ Ok (negsuc 1073741823)
unfolding number_of
largest_is_read = refl

larger_is_refused : number_of (record { sign = Unsigned; whole = codes "1073741825"; fraction = None; exponent = None }) 0 true ≡ Err OutOfRange
unfolding number_of
larger_is_refused = refl

-- a whole number may have leading zeros, and is read up to its limit
seven_is_read : whole_of (codes "007") 7 ≡ Some 7
unfolding whole_of
seven_is_read = refl

eight_is_refused : whole_of (codes "8") 7 ≡ None
unfolding whole_of
eight_is_refused = refl
