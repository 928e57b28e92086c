-- The text that restores an older state.
use Rattle.std.specs.Prelude.{◌≡◌, ◌≢◌, ◌<◌, ◌+◌, ℕ, List, ◌++◌, length, decimal, IsTrue, Option, Some, None}
use Rattle.std.specs.List.{list_all}
use Rattle.std.specs.Char.{is_ascii_digit}
use Rattle.tfs_state.specs.Document.{Document}
use Rattle.tfs_state.specs.StateText.{SpellsDocument}
use Rattle.tfs_rules.specs.Act.{push}
use Rattle.tfs_rules.specs.Verdict.{verdict_over}
use Rattle.tfs_rules.specs.declared.verdict.Verdict.TheVariants.{Accept}
use Rattle.tfs_versions.specs.declared.restore.RestoreFault.{RestoreFault}
use Rattle.tfs_versions.specs.declared.restore.RestoreFault.TheVariants.{LineageDiffers, SerialAtLimit, TooLong, Unplaced, NoMemory}

-- The new text is the old one with some of its digits replaced by a number. All other bytes are the
-- same.
pub record HasNumber (old : List ℕ) (number : ℕ) (new : List ℕ) : Type 0 where
  pub front : List ℕ
  pub digits : List ℕ
  pub back : List ℕ
  pub before : old ≡ front ++ (digits ++ back)
  pub are_digits : IsTrue (list_all is_ascii_digit digits)
  pub after : new ≡ front ++ (decimal number ++ back)

-- The text is a document with this serial and lineage.
pub record SpellsSuch (text : List ℕ) (serial : ℕ) (lineage : List ℕ) : Type 0 where
  pub document : Document
  pub spelled : SpellsDocument text document
  pub serial_is : document.serial ≡ serial
  pub lineage_is : document.lineage ≡ lineage

-- The text is the version's with a serial one higher than the newest. It is a document with that
-- serial and the same lineage, and a push of it over the newest state is accepted while the lock
-- isn't held.
pub record IsNext (newest version : Document) (text : List ℕ) : Type 0 where
  pub document : Document
  pub spelled : SpellsDocument text document
  pub serial : document.serial ≡ newest.serial + 1
  pub lineage : document.lineage ≡ version.lineage
  pub one_number : HasNumber version.bytes (newest.serial + 1) text
  pub accepted : verdict_over (record { state = Some newest; holder = None }) (push None document) ≡ Accept

-- The text that restores a version over the newest state, if there is one; otherwise the version's
-- own text.
abbrev pub IsRestored : Option Document → Document → List ℕ → Type 0
IsRestored None version text = text ≡ version.bytes
IsRestored (Some newest) version text = IsNext newest version text

-- Both have the same lineage, and the newest serial isn't the highest possible one.
abbrev pub HasNext : Document → Document → Type 0
HasNext newest version = (newest.lineage ≡ version.lineage) × (newest.serial < 18446744073709551615)

-- Why a version can't be restored over the newest state. `Unplaced` means that no digits were found
-- whose replacement makes a text that reads as the next state: the text is read back before it is
-- returned.
abbrev pub IsKeptFor : Document → Document → RestoreFault → Type 0
IsKeptFor newest version LineageDiffers = newest.lineage ≢ version.lineage
IsKeptFor newest version SerialAtLimit = (newest.lineage ≡ version.lineage) × (newest.serial ≡ 18446744073709551615)
IsKeptFor newest version TooLong = HasNext newest version
    × ((text : List ℕ) × HasNumber version.bytes (newest.serial + 1) text × (16777216 < length text))
IsKeptFor newest version Unplaced = HasNext newest version
IsKeptFor newest version NoMemory = Unit {0}

-- The same as `IsKeptFor`, if there is a newest state. Without one, the only possible fault is lack
-- of memory.
abbrev pub IsUnrestoredFor : Option Document → Document → RestoreFault → Type 0
IsUnrestoredFor None version why = why ≡ NoMemory
IsUnrestoredFor (Some newest) version why = IsKeptFor newest version why
