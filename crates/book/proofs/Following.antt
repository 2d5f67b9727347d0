-- Of each call: lists that follow its rules are the book after it, and what is claimed of it holds.
use Rattle.std.proofs.Common.{◌≡◌, true, List, [], get_or, set, Ok, Err, sym, refl, ap, ◌∙◌, subst, inl, inr}
use Rattle.std.proofs.lemmas.Bool.{true≢false}
use Rattle.std.proofs.lemmas.Option.{none-some}
use Rattle.judges.specs.Laws.{Meaning}
use Rattle.preferences.specs.Laws.{Relation}
use Rattle.seating.specs.declared.seat.Seat.{Seat}
use Rattle.seating.specs.Seats.{numbers, all_differ}
use Rattle.book.specs.Book.{Book, Event, admits, withdraws, finds, loads, lists, after, Rules, TurnedAwayExactly, PreferredTaker, OfCall}
use Rattle.book.proofs.Entering.{joins_as_written}
use Rattle.book.proofs.Leaving.{leaves_as_written}

module _ (meaning : Meaning) (before : Relation) (b b' : Book) (differ : all_differ (numbers b) ≡ true) where
  pub written : (e : Event) → Rules meaning before b e b' → b' ≡ after meaning b e
  written (admits x sheet (Ok a) sheet') g = g.others ∙ ap (λ (l : List Seat). set b a.0 l) (joins_as_written meaning x (get_or b a.0 []) (get_or b' a.0 []) g.joins)
  written (admits x sheet (Err e) sheet') (inl r) = r.seats_stay
  written (admits x sheet (Err e) sheet') (inr r) = r.1.seats_stay
  written (withdraws n (Ok a)) l = leaves_as_written b differ n a.0 a.1 a.2 b' l
  written (withdraws n (Err e)) l = l.seats_stay
  written (finds n a) f = f.1
  written (loads p a) f = f.1
  written (lists p a) f = f.1

  turned : (e : Event) → Rules meaning before b e b' → TurnedAwayExactly b e
  turned (admits x sheet (Ok a) sheet') g = λ passes. (λ h. absurd (true≢false (sym h)), λ fails. absurd (fails a.0 (record { there = g.preferred.there; free = g.preferred.takes.room }) g.preferred.takes.fits))
  turned (admits x sheet (Err e) sheet') (inl r) = λ passes. absurd (none-some _ (sym passes ∙ r.cause))
  turned (admits x sheet (Err e) sheet') (inr r) = λ passes. (λ _ p free fits. r.1.nobody p free.there (record { room = free.free; fits = fits }), λ _. refl)
  turned (withdraws n a) l = tt
  turned (finds n a) f = tt
  turned (loads p a) f = tt
  turned (lists p a) f = tt

  preferred : (e : Event) → Rules meaning before b e b' → PreferredTaker before b e
  preferred (admits x sheet (Ok a) sheet') g = g.preferred
  preferred (admits x sheet (Err e) sheet') g = tt
  preferred (withdraws n a) l = tt
  preferred (finds n a) f = tt
  preferred (loads p a) f = tt
  preferred (lists p a) f = tt

  pub of_call : (e : Event) → Rules meaning before b e b' → OfCall meaning before b e
  of_call e r = record {
    right = subst (λ (c : Book). Rules meaning before b e c) (written e r) r;
    turned_away = turned e r;
    preferred = preferred e r;
  }
