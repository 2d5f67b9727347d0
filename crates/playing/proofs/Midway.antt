-- The player between two records: what it keeps, that each record keeps it, and what follows at the end.
use Rattle.std.proofs.Common.{◌≡◌, ℕ, ◌+◌, true, ltb, List, [], ◌∷◌, ◌++◌, length, take, drop, Ok, Err, Result, sym, refl, ap, ◌∙◌, subst, append_assoc, append-nil}
use Rattle.std.proofs.lemmas.Bool.{and_parts, cond-true}
use Rattle.std.proofs.lemmas.List.{take_at}
use Rattle.tasks.specs.declared.units.Ticks.{Ticks}
use Rattle.tasks.specs.declared.units.Units.{Units}
use Rattle.tasks.specs.Tasks.{task_of}
use Rattle.judges.specs.declared.points.Points.{Points}
use Rattle.judges.specs.Meanings.{least_good_point}
use Rattle.judges.specs.Meant.{points_lawful}
use Rattle.preferences.specs.declared.policy.Policy.{Policy}
use Rattle.preferences.specs.Laws.{Relation}
use Rattle.preferences.specs.Policies.{policy_before}
use Rattle.seating.specs.declared.refusal.AdmitRefusal.{AdmitRefusal}
use Rattle.seating.specs.declared.refusal.WithdrawRefusal.{WithdrawRefusal}
use Rattle.book.specs.Book.{Book, Event, new_book, after, Rules, Right}
use Rattle.book.specs.Book as call
use Rattle.book.proofs.Following.{written}
use Rattle.rack.specs.Table.{Table, Sound}
use Rattle.rack.specs.Steps.{Makes}
use Rattle.rack.proofs.Soundness.{free_sound, admitted_sound, withdrawn_sound}
use Rattle.rackfile.specs.declared.fault.FileFault.{FileFault}
use Rattle.rackfile.specs.Records.{Seen, admits, withdraws, length_allowed}
use Rattle.rackfile.specs.Files.{File, reading}
use Rattle.rackfile.specs.Format.{record_allowed, all_allowed, Stands}
use Rattle.rackfile.proofs.Standing.{reads}
use Rattle.lines.specs.Texts as texts
use Rattle.lines.specs.Texts.{line_text, writable}
use Rattle.lines.specs.Writing.{Written}
use Rattle.playing.specs.Outcomes.{unreadable}
use Rattle.playing.specs.Playing.{admit_line, withdraw_line, Plays}
use Rattle.playing.specs.Lines.{LineFirst, Lines, blank_sheet, TextOf, PlayerText}
use Rattle.playing.proofs.Readings.{fault_told}
use Rattle.playing.proofs.OnlyText.{one_text_of}

-- a line that was written stands at the front of the buffer
line_taken : (old new : List ℕ) (line : texts.Seen) (long : ℕ) → writable line ≡ true → Written old new line long → take long new ≡ line_text line
line_taken old new line long can w =
    let n = w.long ∙ cond-true (writable line) (length (line_text line)) 0 can in
    let all = w.buffer ∙ cond-true (writable line) (line_text line ++ drop (length (line_text line)) old) old can in
    ap (λ (t : List ℕ). take long t) all ∙ take_at (line_text line) (drop (length (line_text line)) old) long (sym n)

admit_writable : (index : ℕ) (label : List ℕ) (answer : Result (ℕ × Ticks) AdmitRefusal) → length_allowed (length label) ≡ true → writable (admit_line index label answer) ≡ true
admit_writable index label (Ok a) h = h
admit_writable index label (Err e) h = h

withdraw_writable : (index number : ℕ) (answer : Result (ℕ × Units × Ticks) WithdrawRefusal) → writable (withdraw_line index number answer) ≡ true
withdraw_writable index number (Ok a) = refl
withdraw_writable index number (Err e) = refl

label_allowed : (number work period : ℕ) (label : List ℕ) (place : ℕ) → record_allowed (admits number work period label place) ≡ true → length_allowed (length label) ≡ true
label_allowed number work period label place h =
    let a = and_parts (ltb number 4294967296) _ h in
    let b = and_parts (ltb work 4294967296) _ a.1 in
    let c = and_parts (ltb period 4294967296) _ b.1 in
    (and_parts (length_allowed (length label)) _ c.1).0

-- The player has written this much and has these records left. Its rack is sound and keeps the policy; and whatever the text of the records left, by the rack's lists as the book,
-- the text of all is what is written and then that.
pub record Midway (policy : Policy) (m : ℕ) (all : List Seen) (r : Table Points Policy) (sheet : List ℕ) (index : ℕ) (left : List Seen) (done : List ℕ) : Type 0 where
  pub sound : Sound r.lists
  pub preference : policy_before r.preference ≡ policy_before policy
  pub allowed : all_allowed left ≡ true
  pub goes_on : (rest : List ℕ) → Lines policy r.lists sheet index left rest → Lines policy (new_book m) blank_sheet 0 all (done ++ rest)

module _ (policy : Policy) (m : ℕ) (all : List Seen) where
  pub begun : (judge : Points) (r : Table Points Policy) → all_allowed all ≡ true → Makes (λ _. least_good_point) policy_before m judge policy r → Midway policy m all r blank_sheet 0 all []
  begun judge r allowed made = record {
    sound = subst Sound (sym made.free) (free_sound m made.size);
    preference = ap policy_before made.preference;
    allowed = allowed;
    goes_on = λ rest l. subst (λ (b : Book). Lines policy b blank_sheet 0 all rest) made.free l;
  }

  module _ (r s : Table Points Policy) (sheet : List ℕ) (index : ℕ) (left : List Seen) (done : List ℕ) where
    -- by the book: the lists after a call are the book after it, and the answer is right
    record ByTheBook (e : Event) : Type 0 where
      pub book : s.lists ≡ after least_good_point r.lists e
      pub right : Right least_good_point (policy_before policy) r.lists e

    by_the_book : (e : Event) → Sound r.lists → policy_before r.preference ≡ policy_before policy → Rules least_good_point (policy_before r.preference) r.lists e s.lists → ByTheBook e
    by_the_book e sound preference rules =
        let by_policy = subst (λ (f : Relation). Rules least_good_point f r.lists e s.lists) preference rules in
        let book = written least_good_point (policy_before policy) r.lists s.lists sound.differ e by_policy in
        record { book = book; right = subst (λ (b : Book). Rules least_good_point (policy_before policy) r.lists e b) book by_policy }

    -- the line and the text behind it, from the book after the call on
    line_first : (sheet' : List ℕ) (e : Event) (line : texts.Seen) (t rest : List ℕ) → ByTheBook e → t ≡ line_text line → Lines policy s.lists sheet' (index + 1) left rest
        → LineFirst policy r.lists e line (λ b' u. Lines policy b' sheet' (index + 1) left u) (t ++ rest)
    line_first sheet' e line t rest k is l = record {
      right = k.right;
      rest = rest;
      whole = ap (λ (u : List ℕ). u ++ rest) is;
      goes_on = subst (λ (b : Book). Lines policy b sheet' (index + 1) left rest) k.book l;
    }

    pub one_more : (x : Seen) (sheet' buffer buffer' : List ℕ) (long : ℕ) → Midway policy m all r sheet index (x ∷ left) done
        → Plays (λ _. least_good_point) policy_before r x index sheet buffer long s sheet' buffer' → Midway policy m all s sheet' (index + 1) left (done ++ take long buffer')
    one_more (admits number work period label place) sheet' buffer buffer' long k p =
        let x = task_of number work period in
        let e = call.admits x sheet p.answer sheet' in
        let both = and_parts (record_allowed (admits number work period label place)) (all_allowed left) k.allowed in
        let is = line_taken buffer buffer' (admit_line index label p.answer) long (admit_writable index label p.answer (label_allowed number work period label place both.0)) p.line in
        let book = by_the_book e k.sound k.preference p.step.admits in
        record {
          sound = admitted_sound r.lists k.sound least_good_point points_lawful (policy_before r.preference) x sheet p.answer sheet' s.lists p.step.admits;
          preference = p.step.preference ∙ k.preference;
          allowed = both.1;
          goes_on = λ rest l. subst (Lines policy (new_book m) blank_sheet 0 all) (sym (append_assoc done (take long buffer') rest))
              (k.goes_on (take long buffer' ++ rest) (p.answer, sheet', line_first sheet' e (admit_line index label p.answer) (take long buffer') rest book is l));
        }
    one_more (withdraws number) sheet' buffer buffer' long k p =
        let e = call.withdraws number p.answer in
        let both = and_parts (record_allowed (withdraws number)) (all_allowed left) k.allowed in
        let is = line_taken buffer buffer' (withdraw_line index number p.answer) long (withdraw_writable index number p.answer) p.line in
        let book = by_the_book e k.sound k.preference p.step.withdraws in
        record {
          sound = withdrawn_sound r.lists k.sound number p.answer s.lists p.step.withdraws;
          preference = ap policy_before p.step.preference ∙ k.preference;
          allowed = both.1;
          goes_on = λ rest l. subst (Lines policy (new_book m) blank_sheet 0 all) (sym (append_assoc done (take long buffer') rest))
              (k.goes_on (take long buffer' ++ rest) (p.answer, line_first sheet e (withdraw_line index number p.answer) (take long buffer') rest book is (subst (λ (z : List ℕ). Lines policy s.lists z (index + 1) left rest) p.sheet_stays l)));
        }

  module _ (r : Table Points Policy) (sheet : List ℕ) (index : ℕ) (done : List ℕ) where
    -- where no record is left, what is written is the text
    pub ended : Midway policy m all r sheet index [] done → Lines policy (new_book m) blank_sheet 0 all done
    ended k = subst (Lines policy (new_book m) blank_sheet 0 all) (append-nil done) (k.goes_on [] refl)

    -- at any time it is a front part of it
    pub front : (left : List Seen) → Midway policy m all r sheet index left done → (rest : List ℕ) × Lines policy (new_book m) blank_sheet 0 all (done ++ rest)
    front left k = let one = one_text_of policy left r.lists k.sound sheet index in (one.it, k.goes_on one.it one.is)

-- of a file the text of its records is the player's; of a fault its one line is, as it stands in the buffer
pub text_of_file : (input : List ℕ) (f : File) → Stands input f → (text : List ℕ) → Lines f.policy (new_book f.processors) blank_sheet 0 f.records text → PlayerText input text
text_of_file input f stands text l = subst (λ (r : Result File FileFault). TextOf r text) (sym (reads input f stands)) l

pub text_of_fault : (input : List ℕ) (e : FileFault) → reading input ≡ Err e → (buffer buffer' : List ℕ) (long : ℕ) → Written buffer buffer' (unreadable e) long → PlayerText input (take long buffer')
text_of_fault input e found buffer buffer' long w =
    subst (λ (r : Result File FileFault). TextOf r (take long buffer')) (sym found) (line_taken buffer buffer' (unreadable e) long refl w ∙ ap line_text (fault_told input e found))
