-- One turn of the loop over the records.
use Rattle.std.proofs.Common.{◌≡◌, ℕ, ◌+◌, List, ◌∷◌, ◌++◌, take, sym, subst}
use Rattle.judges.specs.declared.points.Points.{Points}
use Rattle.judges.specs.Meanings.{least_good_point}
use Rattle.preferences.specs.declared.policy.Policy.{Policy}
use Rattle.preferences.specs.Policies.{policy_before}
use Rattle.rack.specs.Table.{Table}
use Rattle.rackfile.specs.Records.{Seen}
use Rattle.playing.specs.Playing.{Plays}
use Rattle.playing.proofs.Midway.{Midway, one_more}

module _ (policy : Policy) (m : ℕ) (all : List Seen) (r s : Table Points Policy) (sheet sheet' : List ℕ) (start next index : ℕ) (x : Seen) (left left' : List Seen) (done buffer buffer' : List ℕ) (long : ℕ) where
  pub turn : Midway policy m all r sheet start left done → (index ≡ start) × (next ≡ index + 1) → left ≡ x ∷ left' → Plays (λ _. least_good_point) policy_before r x index sheet buffer long s sheet' buffer'
      → Midway policy m all s sheet' next left' (done ++ take long buffer')
  turn k counts first plays =
      let here = subst (λ i. Midway policy m all r sheet i (x ∷ left') done) (sym counts.0) (subst (λ l. Midway policy m all r sheet start l done) first k) in
      subst (λ i. Midway policy m all s sheet' i left' (done ++ take long buffer')) (sym counts.1) (one_more policy m all r s sheet index left' done x sheet' buffer buffer' long here plays)
