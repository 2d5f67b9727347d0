-- The words that calls begin with.
use Rattle.std.specs.Prelude.{ℕ, List, codes}
use Rattle.script.specs.declared.words.Word.{Word}
use Rattle.script.specs.declared.words.Word.TheVariants.{Judge, Demand, Share, Rehearse, Trace}

abbrev pub name_of : Word → List ℕ
name_of Judge = codes "judge"
name_of Demand = codes "demand"
name_of Share = codes "share"
name_of Rehearse = codes "rehearse"
name_of Trace = codes "trace"
