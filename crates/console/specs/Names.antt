-- The words that the console's calls begin with.
use Rattle.std.specs.Prelude.{ℕ, List, codes}
use Rattle.console.specs.declared.words.Word.{Word}
use Rattle.console.specs.declared.words.Word.TheVariants.{Read, Play, Make, Admit, Withdraw, Find, Load, Seats}

abbrev pub name_of : Word → List ℕ
name_of Read = codes "read"
name_of Play = codes "play"
name_of Make = codes "make"
name_of Admit = codes "admit"
name_of Withdraw = codes "withdraw"
name_of Find = codes "find"
name_of Load = codes "load"
name_of Seats = codes "seats"
