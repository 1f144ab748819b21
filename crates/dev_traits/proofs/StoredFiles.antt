-- The search for a file by its name.
use Rattle.std.proofs.Common.{◌≡◌, ℕ, ◌+◌, ◌<◌, List, length, drop, map, Bool, true, false, slice_index_or, get_or, refl, sym, ap, ◌∙◌, Option, None, Some, ◌≤◌, [], ◌∷◌, ◌++◌, cond, arith, IfSome, subst}
use Rattle.std.proofs.lemmas.List.{at_drop_more, at_drop_all, get_or-map, length-map, length-append, map-append}
use Rattle.std.proofs.Math.ListN.{get_or-append}
use Rattle.std.specs.Str.{bytes_eq}
use Rattle.std.specs.String.{string_bytes}
use Rattle.dev_traits.specs.Files.{NamedFile, file_named}
use Rattle.dev_traits.specs.StoredFiles.{named, file_at, IsPlaced}
use Rattle.dev_traits.specs.declared.stored_files.StoredFile.{StoredFile}

-- what the search finds from a place on
abbrev pub found_from : List StoredFile → ℕ → List ℕ → Option (List ℕ)
found_from files at name = file_named (map named (drop at files)) name

-- what it finds where this file stands at the place
opened : (files : List StoredFile) (at : ℕ) (file : StoredFile) (name : List ℕ) → at < length files → file ≡ slice_index_or files at file
    → found_from files at name ≡ file_named (named file ∷ map named (drop (at + 1) files)) name
opened files at file name within is =
    at_drop_more (λ xs. file_named (map named xs) name) files at file within
    ∙ ap (λ f. file_named (named f ∷ map named (drop (at + 1) files)) name) (sym is)

pub found_here : (files : List StoredFile) (at : ℕ) (file : StoredFile) (name : List ℕ) → at < length files → file ≡ slice_index_or files at file
    → bytes_eq (string_bytes file.name) name ≡ true → found_from files at name ≡ Some file.bytes.items
unfolding file_named
found_here files at file name within is same = rw (opened files at file name within is, same) refl

pub found_later : (files : List StoredFile) (at : ℕ) (file : StoredFile) (name : List ℕ) → at < length files → file ≡ slice_index_or files at file
    → bytes_eq (string_bytes file.name) name ≡ false → found_from files at name ≡ found_from files (at + 1) name
unfolding file_named
found_later files at file name within is other = rw (opened files at file name within is, other) refl

-- the file that the search finds is the first of its name
pub placed : (files : List StoredFile) (at : ℕ) (file : StoredFile) (name : List ℕ) → at < length files → file ≡ slice_index_or files at file
    → string_bytes file.name ≡ name → file_named (map named files) name ≡ Some file.bytes.items
    → IsPlaced files at × ((file_at files at).name ≡ name)
placed files at file name within is same found =
    let stands : file_at files at ≡ named file = get_or-map named files at file (record { name = []; bytes = [] }) within ∙ ap named (sym is) in
    let named_so : (file_at files at).name ≡ name = ap (λ (f : NamedFile). f.name) stands ∙ same in
    (record { within = within; first = rw (named_so, found) (ap (λ (f : NamedFile). Some f.bytes) (sym stands)) }, named_so)

pub found_none : (files : List StoredFile) (at : ℕ) (name : List ℕ) → length files ≤ at → found_from files at name ≡ None
unfolding file_named
found_none files at name end = at_drop_all (λ xs. file_named (map named xs) name) files at end

found_step : (same : Bool) (bytes found : List ℕ) (rest more : Option (List ℕ)) → (rest ≡ Some found → more ≡ Some found)
    → cond same (Some bytes) rest ≡ Some found → cond same (Some bytes) more ≡ Some found
found_step true bytes found rest more later is = is
found_step false bytes found rest more later is = later is

-- a file that is found is found with more files behind
found_still : (files more : List NamedFile) (name bytes : List ℕ) → file_named files name ≡ Some bytes → file_named (files ++ more) name ≡ Some bytes
unfolding file_named
found_still [] more name bytes found = absurd (cc)
found_still (file ∷ files) more name bytes found =
    found_step (bytes_eq file.name name) file.bytes bytes (file_named files name) (file_named (files ++ more) name)
    (found_still files more name bytes) found

pub placed_still : (files more : List StoredFile) (at : ℕ) → IsPlaced files at → IsPlaced (files ++ more) at
placed_still files more at is =
    let same : file_at (files ++ more) at ≡ file_at files at =
    ap (λ xs. get_or xs at (record { name = []; bytes = [] })) (map-append named files more)
    ∙ get_or-append (map named files) (map named more) (record { name = []; bytes = [] }) at (rw (length-map files named) is.within)
    in
    record {
      within = rw (length-append files more) (omega (arith, is.within));
      first = rw (same, map-append named files more) (found_still (map named files) (map named more) (file_at files at).name (file_at files at).bytes is.first);
    }

pub current_still : (current : Option ℕ) (files pushed more : List StoredFile) → pushed ≡ files ++ more
    → IfSome current (IsPlaced files) → IfSome current (IsPlaced pushed)
current_still None files pushed more is none = none
current_still (Some at) files pushed more is placed = subst (λ xs. IsPlaced xs at) (sym is) (placed_still files more at placed)
