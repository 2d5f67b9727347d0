-- The first waiting task has the turn.
use Rattle.std.proofs.Common.{◌≡◌, ℕ, zero, suc, ◌+◌, List, [], ◌∷◌, Some, None, Option, sym, refl, subst, arith}
use Rattle.std.specs.List.{position_from}
use Rattle.std.proofs.lemmas.Iterator.Adapters.{position_from-zero}
use Rattle.machine.specs.declared.state.State.{State}
use Rattle.machine.specs.declared.state.State.TheVariants.{Idle, Waiting}
use Rattle.machine.specs.Laws.{turn_of}
use Rattle.traces.specs.Traces.{waiting, first_waiting, TurnIs, ServedHasTurn}

turn_none : (k : ℕ) (ss : List State) → position_from waiting k ss ≡ None → (p : ℕ) → turn_of p ss ≡ 0
turn_none k [] e zero = refl
turn_none k [] e (suc p) = refl
turn_none k (Idle ∷ ss) e zero = refl
turn_none k (Idle ∷ ss) e (suc p) = turn_none (k + 1) ss e p
turn_none k (Waiting left deadline ∷ ss) e p = let z : ◌≡◌ {A = ℕ} 0 1 = cc in absurd (omega arith)

turn_some : (k : ℕ) (ss : List State) (q : ℕ) → position_from waiting k ss ≡ Some q → (p : ℕ) × (q ≡ k + p) × (turn_of p ss ≡ 1)
turn_some k [] q e = let z : ◌≡◌ {A = ℕ} 0 1 = cc in absurd (omega arith)
turn_some k (Idle ∷ ss) q e = let w = turn_some (k + 1) ss q e in let s : q ≡ k + suc w.0 = omega (arith, w.1) in (suc w.0, s, w.2)
turn_some k (Waiting left deadline ∷ ss) q e = let s : k ≡ q = cc in let t : q ≡ k + 0 = omega arith in (0, t, refl)

turn_is : (ss : List State) (o : Option ℕ) → position_from waiting 0 ss ≡ o → TurnIs ss o
turn_is ss None e = turn_none 0 ss e
turn_is ss (Some q) e = let w = turn_some 0 ss q e in let s : w.0 ≡ q = omega (arith, w.1) in subst (λ p. turn_of p ss ≡ 1) s w.2

pub served_has_turn : ServedHasTurn
served_has_turn ss = turn_is ss (first_waiting ss) (sym (position_from-zero waiting ss))
