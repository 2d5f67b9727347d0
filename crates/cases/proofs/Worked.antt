-- Each worked case gives what it must.
use Rattle.std.proofs.Common.{◌++◌, All, refl, lit≤}
use Rattle.std.specs.List.{AllByRecursion}
use Rattle.std.proofs.lemmas.List.Elements.{All-append, All-from_recursion}
use Rattle.tasks.specs.Rounding.{up}
use Rattle.tasks.specs.Instants.{least}
use Rattle.cases.specs.Cases.{Settled, cases, computed, long, places, answers, whole, task}
use Rattle.cases.proofs.Full.{none_least, none_point}
use Rattle.cases.proofs.Placed.{all_placed}
use Rattle.cases.proofs.Sampled.{all_answered, all_sampled}

by_computing : AllByRecursion Settled computed
unfolding up least
by_computing = ((refl, refl), ((refl, refl), ((refl, refl), ((refl, refl), ((refl, refl), ((refl, refl), ((refl, refl), ((refl, refl), ((refl, refl), (refl, (refl, (refl, (refl, (refl, ((refl, refl), ((refl, refl), tt))))))))))))))))

by_lemma : AllByRecursion Settled long
by_lemma = ((none_point (task 1 1000000) (lit≤ tt), none_least (task 1 1000000) (lit≤ tt)), tt)

pub all_settled : All Settled cases
all_settled =
    All-append Settled computed (long ++ (places ++ (answers ++ whole))) (All-from_recursion Settled computed by_computing)
    (All-append Settled long (places ++ (answers ++ whole)) (All-from_recursion Settled long by_lemma)
    (All-append Settled places (answers ++ whole) (All-from_recursion Settled places all_placed)
    (All-append Settled answers whole (All-from_recursion Settled answers all_answered) (All-from_recursion Settled whole all_sampled))))
