-- What one turn of each loop over the states keeps.
use Rattle.std.proofs.Common.{◌≡◌, ℕ, ◌+◌, ◌<◌, List, [], ◌∷◌, ◌++◌, length, get_or, take, drop, set, Some, None, sym, refl, ap, ◌∙◌, add-one, arith}
use Rattle.std.proofs.lemmas.List.{at_drop_more, append_assoc, take_more, set_split}
use Rattle.machine.specs.declared.state.State.{State}
use Rattle.machine.specs.declared.state.State.TheVariants.{Idle, Waiting}
use Rattle.machine.specs.Machine.{served, busy_tick, worked}
use Rattle.machine.specs.Events.{given_tick}

-- the states below i are as they were, and the first waiting task stands from i on
pub record Seeking (old ss : List State) (i : ℕ) : Type 0 where
  pub same : ss ≡ old
  pub rest : take i ss ++ served (drop i ss) ≡ served ss
  pub busy : busy_tick (drop i ss) ≡ busy_tick ss

module _ (ss : List State) (i : ℕ) (lt : i < length ss) where
  here : {Y : Type 0} (F : List State → Y) (s : State) → get_or ss i Idle ≡ s → F (drop i ss) ≡ F (s ∷ drop (i + 1) ss)
  here F s e = at_drop_more F ss i Idle lt ∙ ap (λ g. F (g ∷ drop (i + 1) ss)) e

  idle_from : (s : State) → None ≡ given_tick s → s ≡ Idle
  idle_from Idle e = refl
  idle_from (Waiting l d) e = let z : ◌≡◌ {A = ℕ} 0 1 = cc in absurd (omega arith)

  pub seek_more : (old : List State) → Seeking old ss i → None ≡ given_tick (get_or ss i Idle) → Seeking old ss (i + 1)
  seek_more old w e =
      let g = idle_from (get_or ss i Idle) e in
      record {
        same = w.same;
        rest =
            ap (λ l. l ++ served (drop (i + 1) ss)) (take_more ss i Idle lt ∙ ap (λ g. take i ss ++ g ∷ []) g) ∙ append_assoc (take i ss) (Idle ∷ []) (served (drop (i + 1) ss))
            ∙ sym (here (λ l. take i ss ++ served l) Idle g) ∙ w.rest;
        busy = sym (here busy_tick Idle g) ∙ w.busy;
      }

  done_at : (s next : State) → get_or ss i Idle ≡ s → Some next ≡ given_tick s → (take i ss ++ next ∷ drop (i + 1) ss ≡ take i ss ++ served (drop i ss)) × (busy_tick (drop i ss) ≡ 1)
  done_at Idle next g e = let z : ◌≡◌ {A = ℕ} 0 1 = cc in absurd (omega arith)
  done_at (Waiting l d) next g e =
      let n : next ≡ worked l d = cc in
      (ap (λ x. take i ss ++ x ∷ drop (i + 1) ss) n ∙ sym (here (λ k. take i ss ++ served k) (Waiting l d) g), here busy_tick (Waiting l d) g)

  pub seek_found : (old : List State) (next : State) → Seeking old ss i → Some next ≡ given_tick (get_or ss i Idle) → (set ss i next ≡ served old) × (1 ≡ busy_tick old)
  seek_found old next w e =
      let d = done_at (get_or ss i Idle) next refl e in (
        set_split ss i next lt ∙ ap (λ n. take i ss ++ next ∷ drop n ss) (sym (add-one i)) ∙ d.0 ∙ w.rest ∙ ap served w.same,
        sym d.1 ∙ w.busy ∙ ap busy_tick w.same,
      )
