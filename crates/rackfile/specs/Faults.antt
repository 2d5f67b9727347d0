-- The layer, the number and the place of each fault, and its text.
use Rattle.std.specs.Prelude.{◌≡◌, ℕ, List, ◌++◌, codes, decimal}
use Rattle.rackfile.specs.declared.fault.Layer.{Layer}
use Rattle.rackfile.specs.declared.fault.Layer.TheVariants as layer
use Rattle.rackfile.specs.declared.fault.BytesFault.TheVariants.{TooLong, Cut, Trailing}
use Rattle.rackfile.specs.declared.fault.RecordFault.TheVariants.{Bytes, Tag, Label}
use Rattle.rackfile.specs.declared.fault.FileFault.{FileFault}
use Rattle.rackfile.specs.declared.fault.FileFault.TheVariants.{Record, Mark, Version, Policy, Processors}

pub record Values : Type 0 where
  pub layer : Layer
  pub number : ℕ
  pub place : ℕ

-- input above 65,536 bytes, a field cut short, bytes after the last record; unknown tag, bad label; mark, version, policy letter, number of processors
abbrev pub values_of : FileFault → Values
values_of (Record (Bytes TooLong)) = record { layer = layer.Bytes; number = 11; place = 65536 }
values_of (Record (Bytes (Cut place))) = record { layer = layer.Bytes; number = 12; place = place }
values_of (Record (Bytes (Trailing place))) = record { layer = layer.Bytes; number = 17; place = place }
values_of (Record (Tag place)) = record { layer = layer.Record; number = 15; place = place }
values_of (Record (Label place)) = record { layer = layer.Record; number = 16; place = place }
values_of Mark = record { layer = layer.File; number = 13; place = 0 }
values_of Version = record { layer = layer.File; number = 13; place = 3 }
values_of Policy = record { layer = layer.File; number = 14; place = 5 }
values_of Processors = record { layer = layer.File; number = 14; place = 6 }

abbrev pub layer_of : FileFault → Layer
layer_of f = (values_of f).layer

abbrev pub number_of : FileFault → ℕ
number_of f = (values_of f).number

abbrev pub place_of : FileFault → ℕ
place_of f = (values_of f).place

-- a layer's name
abbrev pub layer_name : Layer → List ℕ
layer_name layer.Bytes = codes "bytes"
layer_name layer.Record = codes "record"
layer_name layer.File = codes "file"

-- `LAYER NUMBER PLACE`
abbrev pub fault_text : FileFault → List ℕ
fault_text f = layer_name (layer_of f) ++ (codes " " ++ (decimal (number_of f) ++ (codes " " ++ decimal (place_of f))))

-- two faults with the same number and place are the same
abbrev pub FaultsDiffer : Type 0
FaultsDiffer = (f g : FileFault) → number_of f ≡ number_of g → place_of f ≡ place_of g → f ≡ g
