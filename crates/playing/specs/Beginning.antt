-- What the player begins with.
use Rattle.std.specs.Prelude.{◌≡◌, ℕ, List, Ok, Err, Result}
use Rattle.judges.specs.declared.points.Points.{Points}
use Rattle.judges.specs.Meanings.{least_good_point}
use Rattle.preferences.specs.Policies.{policy_before}
use Rattle.rack.specs.Steps.{Makes}
use Rattle.rackfile.specs.declared.fault.FileFault.{FileFault}
use Rattle.rackfile.specs.Files.{File, reading}
use Rattle.rackfile.specs.Format.{Stands}
use Rattle.playing.specs.declared.fault.PlayerFault.{PlayerFault}
use Rattle.playing.specs.declared.fault.PlayerFault.TheVariants.{Unread}
use Rattle.playing.specs.declared.opening.Play.{Play}

-- the bytes stand for a file; its rack is made, with the points judge and the file's policy (and with it the claim over its whole life); its records are to be played
pub record Began (input : List ℕ) (play : Play) : Type 0 where
  pub file : File
  pub stands : Stands input file
  pub judge : Points
  pub made : Makes (λ _. least_good_point) policy_before file.processors judge file.policy play.rack
  pub records : play.records ≡ file.records

-- reading found this fault
pub record Unreadable (input : List ℕ) (fault : PlayerFault) : Type 0 where
  pub found : FileFault
  pub its_fault : reading input ≡ Err found
  pub whole : fault ≡ Unread found

abbrev pub Begins : List ℕ → Result Play PlayerFault → Type 0
Begins input (Ok play) = Began input play
Begins input (Err fault) = Unreadable input fault
