-- The best of one processor more.
use Rattle.std.proofs.Common.{◌≡◌, ℕ, ◌+◌, ◌<◌, true, ◌≢◌, List, [], ◌∷◌, ◌++◌, length, get_or, Some, None, Option, sym, refl, ap, ◌∙◌, subst, ⊎_elim, arith, below_more}
use Rattle.std.specs.Option.{ok_or}
use Rattle.std.proofs.lemmas.List.{length-append, get_or_append_left}
use Rattle.std.proofs.Math.Seq.{get_or-append_seam}
use Rattle.std.proofs.lemmas.Bool.{cases_eq, cond_both, not_from_false}
use Rattle.tasks.specs.declared.task.Task.{Task}
use Rattle.seating.specs.declared.seat.Seat.{Seat}
use Rattle.judges.specs.Laws.{Meaning}
use Rattle.preferences.specs.Laws.{Relation, PreferenceLaws}
use Rattle.preferences.specs.declared.contender.Contender.{Contender}
use Rattle.seating.specs.Seats.{Lists}
use Rattle.seating.specs.Admission.{on, seen_with, as_seen}
use Rattle.rack.specs.declared.trial.Trial.{Trial}
use Rattle.rack.specs.declared.trial.Declined.TheVariants.{Full, Unfit}
use Rattle.rack.specs.declared.trial.Declined.{Declined}
use Rattle.rack.specs.declared.choice.Taker.{Taker}
use Rattle.rack.specs.declared.choice.Choice.{Choice}
use Rattle.arrayvec.specs.ArrayVec.{ArrayVec}
use Rattle.rack.specs.Trials.{entry_of, Took, Declines}
use Rattle.rack.specs.Choices.{better_of, Willing, Rejects, Best, ChosenSoFar, Chosen}

module _ (meaning : Meaning) (x : Task) (ss : List Seat) where
  pub willing : (t : Trial) → Took meaning x ss t → Willing meaning x ss
  willing t k = (k.trial.room, λ i lo hi. (_, k.each i (omega (arith, k.trial.place)) hi))

  pub rejects : (n : ℕ) → Rejects meaning x ss n → Willing meaning x ss → ⊥
  rejects n (Full, full, is) w = omega (arith, full, w.0)
  rejects n (Unfit m, f, is) w =
      let s = w.1 f.1.at f.1.below f.1.within in
      let yes-it = s.1 in
      let none = f.1.none in
      let z : ◌≡◌ {A = ℕ} 0 1 = cc in omega arith

module _ (meaning : Meaning) (before : Relation) (laws : PreferenceLaws before) (b : Lists) (x : Task) (p : ℕ) (es : List ℕ) where
  pub entry_more : (n : ℕ) (o : Option Taker) → Rejects meaning x (on b p) n → Best meaning before b x p es o → Best meaning before b x (p + 1) (es ++ n ∷ []) o
  entry_more n None e h = (
    omega (arith, length-append es (n ∷ []), h.0),
    below_more (λ (q : ℕ). Rejects meaning x (on b q) (get_or (es ++ n ∷ []) q 0)) p
        (λ q lt. subst (λ (v : ℕ). Rejects meaning x (on b q) v) (sym (get_or_append_left es (n ∷ []) 0 q (omega (arith, h.0)))) (h.1 q lt))
        (subst (λ (v : ℕ). Rejects meaning x (on b p) v) (sym (ap (λ (q : ℕ). get_or (es ++ n ∷ []) q 0) (sym h.0) ∙ get_or-append_seam es n [] 0)) e),
  )
  entry_more n (Some o) e h = (
    omega (arith, h.0),
    h.1,
    h.2,
    below_more (λ (q : ℕ). (q ≡ o.contender.number → ⊥) → Willing meaning x (on b q) → before o.contender (as_seen b q) ≡ true) p h.3
        (λ ne w. absurd (rejects meaning x (on b p) n e w)),
  )

  abbrev taker : Trial → Taker
  taker t = record { contender = as_seen b p; trial = t }

  taker_first : (t : Trial) → Took meaning x (on b p) t → ((q : ℕ) → q < p → (q ≢ p) → Willing meaning x (on b q) → before (as_seen b p) (as_seen b q) ≡ true) → Best meaning before b x (p + 1) es (Some (taker t))
  taker_first t k others = (
    omega arith,
    refl,
    k,
    below_more (λ (q : ℕ). (q ≡ p → ⊥) → Willing meaning x (on b q) → before (as_seen b p) (as_seen b q) ≡ true) p others (λ ne w. absurd (ne refl)),
  )

  pub taker_more : (t : Trial) (o : Option Taker) → Took meaning x (on b p) t → Best meaning before b x p es o → Best meaning before b x (p + 1) es (Some (better_of before o (taker t)))
  taker_more t None k h = taker_first t k (λ q lt ne w. absurd (rejects meaning x (on b q) (get_or es q 0) (h.1 q lt) w))
  taker_more t (Some o) k h = cond_both (before (as_seen b p) o.contender) (taker t) o (λ c. Best meaning before b x (p + 1) es (Some c))
      (λ e. taker_first t k (λ q lt ne w. ⊎_elim
      (λ (same : q ≡ o.contender.number). subst (λ (j : ℕ). before (as_seen b p) (as_seen b j) ≡ true) (sym same) (ap (λ (c : Contender). before (as_seen b p) c) (sym h.1) ∙ e))
      (λ (other : q ≡ o.contender.number → ⊥). laws.chains (as_seen b p) o.contender (as_seen b q) e (h.3 q lt other w))
      (cases_eq q o.contender.number)))
      (λ e. (
        omega (arith, h.0),
        h.1,
        h.2,
        below_more (λ (q : ℕ). (q ≡ o.contender.number → ⊥) → Willing meaning x (on b q) → before o.contender (as_seen b q) ≡ true) p h.3
            (λ ne w. laws.one_of_two o.contender (as_seen b p) (λ same. ne (sym same)) ∙ not_from_false _ e),
      ))

-- the choice of one processor more
module _ (meaning : Meaning) (before : Relation) (laws : PreferenceLaws before) (b : Lists) (x : Task) (p : ℕ) (ss : List Seat) (here : on b p ≡ ss) (said : Meaning) (same : said ≡ meaning) (c : Choice) (old : ChosenSoFar meaning before b x p c) where
  pub offered : (f : Relation) (t : Trial) (k : Taker) (d e : Choice) → f ≡ before → k ≡ record { contender = seen_with ss p; trial = t }
      → d ≡ record { best = Some (better_of f c.best k); entries = c.entries } → e ≡ d → Took said x ss t → ChosenSoFar meaning before b x (p + 1) e
  offered f t k d e fs ks ds es took =
      let now : Took meaning x (on b p) t = subst (λ (l : List Seat). Took meaning x l t) (sym here) (subst (λ (m : Meaning). Took m x ss t) same took) in
      let seen : ◌≡◌ {A = Taker} (record { contender = seen_with ss p; trial = t }) (record { contender = seen_with (on b p) p; trial = t }) = ap (λ (l : List Seat). record { contender = seen_with l p; trial = t }) (sym here) in
      let is : e ≡ record { best = Some (better_of before c.best (record { contender = seen_with (on b p) p; trial = t })); entries = c.entries } = es ∙ ds ∙ ap (λ (g : Relation). record { best = Some (better_of g c.best k); entries = c.entries }) fs
      ∙ ap (λ (y : Taker). record { best = Some (better_of before c.best y); entries = c.entries }) (ks ∙ seen) in
      subst (λ (v : Choice). ChosenSoFar meaning before b x (p + 1) v) (sym is) (record { few = omega (arith, old.few); best = taker_more meaning before laws b x p c.entries.items t c.best now old.best })

  pub declined : (d : Declined) (n : ℕ) (us : ArrayVec ℕ) (e : Choice) → n ≡ entry_of d → us.items ≡ c.entries.items ++ n ∷ [] → e ≡ record { best = c.best; entries = us } → Declines said x ss d → ChosenSoFar meaning before b x (p + 1) e
  declined d n us e ns is es rejected =
      let now : Declines meaning x (on b p) d = subst (λ (l : List Seat). Declines meaning x l d) (sym here) (subst (λ (m : Meaning). Declines m x ss d) same rejected) in
      subst (λ (v : Choice). ChosenSoFar meaning before b x (p + 1) v) (sym es) (record {
        few = omega (arith, old.few, ap (length {A = ℕ}) is, length-append c.entries.items (n ∷ []));
        best = subst (λ (l : List ℕ). Best meaning before b x (p + 1) l c.best) (sym is) (entry_more meaning before laws b x p c.entries.items n c.best (d, now, ns) old.best);
      })

-- the end of the choice
pub chosen_so : (meaning : Meaning) (before : Relation) (b : Lists) (x : Task) (best : Option Taker) (entries : ArrayVec ℕ) → Best meaning before b x (length b) entries.items best → Chosen meaning before b x (ok_or best entries)
chosen_so meaning before b x None entries h = h
chosen_so meaning before b x (Some o) entries h = h
