-- A device over a call: what it told, and how many faults it had counted, before and after.
use Rattle.std.specs.Prelude.{◌≡◌, ℕ, List, Option}
use Rattle.std.specs.Io.KnownBytes.{append_known}
use Rattle.dev_traits.specs.Faults.{Rose, DidNotRise}
use Rattle.dev_traits.specs.Files.{NamedFile}
use Rattle.dev_traits.specs.Streams.{Asked}

pub record ChangeOf (Told : Type 0) : Type 0 where
  pub before : Option Told
  pub after : Option Told
  pub faults_before : ℕ
  pub faults_after : ℕ

-- of a device of bytes
abbrev pub Change : Type 0
Change = ChangeOf (List ℕ)

-- of a store of files
abbrev pub StoreChange : Type 0
StoreChange = ChangeOf (List NamedFile)

-- of a scratch: its streams, and what it was asked to start
pub record ScratchChange : Type 0 where
  pub streams : ChangeOf (List (List ℕ))
  pub asked_before : Option Asked
  pub asked_after : Option Asked

-- the change of a device from one state to another
abbrev pub change_of : {D Told : Type 0} → (D → Option Told) → (D → ℕ) → D → D → ChangeOf Told
change_of told faults old new = record { before = told old; after = told new; faults_before = faults old; faults_after = faults new }

-- that of a scratch
abbrev pub scratch_change_of : {D : Type 0} → (D → Option (List (List ℕ))) → (D → Option Asked) → (D → ℕ) → D → D → ScratchChange
scratch_change_of told asked faults old new =
    record { streams = change_of told faults old new; asked_before = asked old; asked_after = asked new }

-- the device counted a fault
abbrev pub IsFaulted : {Told : Type 0} → ChangeOf Told → Type 0
IsFaulted change = Rose change.faults_before change.faults_after

-- it counted none
abbrev pub IsFaultless : {Told : Type 0} → ChangeOf Told → Type 0
IsFaultless change = DidNotRise change.faults_before change.faults_after

-- what it tells and its count of faults stayed as they were
abbrev pub IsKept : {Told : Type 0} → ChangeOf Told → Type 0
IsKept change = (change.after ≡ change.before) × (change.faults_after ≡ change.faults_before)

-- the scratch was not touched
abbrev pub IsScratchKept : ScratchChange → Type 0
IsScratchKept change = IsKept change.streams × (change.asked_after ≡ change.asked_before)

-- a sink was given these bytes
abbrev pub Grew : Change → List ℕ → Type 0
Grew change bytes = change.after ≡ append_known change.before bytes
