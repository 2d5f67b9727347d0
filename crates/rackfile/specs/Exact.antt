-- What reading a file means: exactly the bytes that stand for a file are read as it, and all others have exactly one fault.
use Rattle.std.specs.Prelude.{◌≡◌, ℕ, ◌<◌, ◌↔◌, List, length, take, drop, Ok, Err, Result, ◌≢◌, All}
use Rattle.rackfile.specs.declared.fault.FileFault.{FileFault}
use Rattle.rackfile.specs.declared.file.RackFile.{RackFile}
use Rattle.rackfile.specs.Records.{Seen, admits, withdraws}
use Rattle.rackfile.specs.Files.{File, file_seen, reading}
use Rattle.rackfile.specs.Format.{Stands}

-- a list of bytes
abbrev pub AreBytes : List ℕ → Type 0
AreBytes input = All (λ b. b < 256) input

-- what was read: the file, for which the bytes stand, or the fault
abbrev pub FileRead : List ℕ → Result RackFile FileFault → Type 0
FileRead input (Ok f) = (reading input ≡ Ok (file_seen f)) × Stands input (file_seen f)
FileRead input (Err f) = reading input ≡ Err f

-- bytes are read as a file exactly when they stand for it
abbrev pub ReadsWhatStands : Type 0
ReadsWhatStands = (input : List ℕ) (f : File) → AreBytes input → Stands input f ↔ (reading input ≡ Ok f)

-- no bytes stand for two different files
abbrev pub OneFile : Type 0
OneFile = (input : List ℕ) (f g : File) → AreBytes input → Stands input f → Stands input g → f ≡ g

-- none both stand for a file and have a fault
abbrev pub NotBoth : Type 0
NotBoth = (input : List ℕ) (f : File) (e : FileFault) → AreBytes input → Stands input f → reading input ≢ Err e

-- the label that a record shows is that very part of the input, at its place
abbrev pub Shows : List ℕ → Seen → Type 0
Shows input (admits number work period label place) = take (length label) (drop place input) ≡ label
Shows input (withdraws number) = Unit {0}

abbrev pub LabelsAreThere : Type 0
LabelsAreThere = (input : List ℕ) (f : File) → Stands input f → All (Shows input) f.records
