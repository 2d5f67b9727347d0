-- The claim over every run of a rack.
use Rattle.std.proofs.Common.{◌≡◌, ℕ, true, List, [], ◌∷◌, replicate, sym, ap, subst}
use Rattle.judges.specs.Laws.{Meaning, JudgeLaws}
use Rattle.preferences.specs.Laws.{Relation}
use Rattle.seating.specs.Seats.{Lists}
use Rattle.book.specs.Book.{Book, Event, admits, withdraws, finds, loads, lists, after, Rules, AtMoment, ClaimFrom, MainClaim}
use Rattle.book.proofs.Moments.{at_moment}
use Rattle.book.proofs.Following.{written, of_call}
use Rattle.rack.specs.Table.{Table, Sound, rack_size}
use Rattle.rack.specs.Steps.{Step, Run}
use Rattle.rack.proofs.Passing.{passing}
use Rattle.rack.proofs.Soundness.{free_sound, admitted_sound, withdrawn_sound}

pub moment : (b : Lists) → Sound b → AtMoment b
moment b sound = at_moment b sound.kept_well sound.differ (λ x entries h. (passing b x entries h).limits)

module _ {J P : Type 0} (meaning : J → Meaning) (before : P → Relation) where
  -- a step of the rack follows the rules on its lists, keeps the meanings, and leaves a sound rack
  record Follows (r s : Table J P) (e : Event) : Type 0 where
    pub rules : Rules (meaning r.judge) (before r.preference) r.lists e s.lists
    pub judge : meaning s.judge ≡ meaning r.judge
    pub preference : before s.preference ≡ before r.preference
    pub sound : Sound s.lists

  asked : (r s : Table J P) (e : Event) → Sound r.lists → s ≡ r → (s.lists ≡ r.lists → Rules (meaning r.judge) (before r.preference) r.lists e s.lists) → Follows r s e
  asked r s e sound is rules = record {
    rules = rules (ap (λ (u : Table J P). u.lists) is);
    judge = ap (λ (u : Table J P). meaning u.judge) is;
    preference = ap (λ (u : Table J P). before u.preference) is;
    sound = subst (λ (u : Table J P). Sound u.lists) (sym is) sound;
  }

  follows : ((j : J) → JudgeLaws (meaning j)) → (r s : Table J P) (e : Event) → Sound r.lists → Step meaning before r e s → Follows r s e
  follows laws r s (admits x sheet a sheet') sound t = record {
    rules = t.admits;
    judge = t.judge;
    preference = t.preference;
    sound = admitted_sound r.lists sound (meaning r.judge) (laws r.judge) (before r.preference) x sheet a sheet' s.lists t.admits;
  }
  follows laws r s (withdraws n a) sound t = record {
    rules = t.withdraws;
    judge = ap meaning t.judge;
    preference = ap before t.preference;
    sound = withdrawn_sound r.lists sound n a s.lists t.withdraws;
  }
  follows laws r s (finds n a) sound t = asked r s (finds n a) sound t.1 (λ e. (t.0, e))
  follows laws r s (loads p a) sound t = asked r s (loads p a) sound t.1 (λ e. (t.0, e))
  follows laws r s (lists p a) sound t = asked r s (lists p a) sound t.1 (λ e. (t.0, e))

  carried : (m₁ m₂ : Meaning) (f₁ f₂ : Relation) (b₁ b₂ : Book) (es : List Event) → m₁ ≡ m₂ → f₁ ≡ f₂ → b₁ ≡ b₂ → ClaimFrom m₁ f₁ b₁ es → ClaimFrom m₂ f₂ b₂ es
  carried m₁ m₂ f₁ f₂ b₁ b₂ es p q e h =
      subst (λ (b : Book). ClaimFrom m₂ f₂ b es) e (subst (λ (f : Relation). ClaimFrom m₂ f b₁ es) q (subst (λ (m : Meaning). ClaimFrom m f₁ b₁ es) p h))

  claim_from : ((j : J) → JudgeLaws (meaning j)) → (es : List Event) (r : Table J P) → Sound r.lists → Run meaning before r es → ClaimFrom (meaning r.judge) (before r.preference) r.lists es
  claim_from laws [] r sound run = moment r.lists sound
  claim_from laws (e ∷ es) r sound (s, t, run) =
      let m = meaning r.judge in
      let f = before r.preference in
      let u = follows laws r s e sound t in (
        moment r.lists sound,
        of_call m f r.lists s.lists sound.differ e u.rules,
        carried (meaning s.judge) m (before s.preference) f s.lists (after m r.lists e) es u.judge u.preference (written m f r.lists s.lists sound.differ e u.rules) (claim_from laws es s u.sound run),
      )

  pub whole_life : ((j : J) → JudgeLaws (meaning j)) → (m : ℕ) → rack_size m ≡ true → (j : J) (p : P) (es : List Event) → Run meaning before (record { lists = replicate m []; judge = j; preference = p }) es → MainClaim (meaning j) (before p) m es
  whole_life laws m size j p es run = claim_from laws es _ (free_sound m size) run
