-- From the parts of a run to the text of its input.
use Rattle.std.proofs.Common.{◌≡◌, ℕ, List, take, Ok, Err, Result, Some, None, OnOk, IfSome, MatchResult, IsErrAnd, true, ap, ◌∙◌, sym, subst, refl, length, arith}
use Rattle.std.proofs.lemmas.List.{take_all}
use Rattle.std.proofs.KnownBytes.{Appends-kept}
use Rattle.std.specs.declared.io.Error.{Error}
use Rattle.std.specs.Io.KnownBytes.{Appends, Keeps}
use Rattle.rackfile.specs.declared.fault.FileFault.{FileFault}
use Rattle.rackfile.specs.Records.{Seen}
use Rattle.rackfile.specs.Files.{File}
use Rattle.rackfile.specs.Format.{all_allowed}
use Rattle.book.specs.Book.{new_book}
use Rattle.lines.specs.Texts.{line_text}
use Rattle.playing.specs.declared.opening.Play.{Play}
use Rattle.playing.specs.declared.fault.PlayerFault.{PlayerFault}
use Rattle.playing.specs.declared.halt.Halt.{Halt}
use Rattle.playing.specs.declared.halt.Halt.TheVariants.{Writing}
use Rattle.playing.specs.Beginning.{Began, Unreadable}
use Rattle.playing.specs.Streams.{Known, Taken, Puts}
use Rattle.playing.specs.Lines.{Lines, PlayerText, TextOf, blank_sheet}
use Rattle.playing.specs.Outcomes.{unreadable}
use Rattle.playing.specs.Running.{WritesAll, WritesFront, Writes, LinesWritten, FaultWritten, Runs}
use Rattle.playing.proofs.Midway.{text_of_file}
use Rattle.playing.proofs.Readings.{fault_told}
use Rattle.playing.proofs.Fronts.{front_decides}
use Rattle.playing.proofs.Moving.{taken_front}

-- what is written of one kind is of another, if each text of the first is
kind_of : {E : Type 0} (Kind Other : List ℕ → Type 0) (held held' : Known) (r : Result (Unit {0}) E) → ((text : List ℕ) → Kind text → Other text) → Writes Kind held held' r → Writes Other held held' r
kind_of Kind Other held held' (Ok done) h w = (w.0, h w.0 w.1, w.2)
kind_of Kind Other held held' (Err e) h w = (w.0, h w.0 w.1, w.2)

pub file_written : {E : Type 0} (input : List ℕ) (play : Play) (held held' : Known) (r : Result (Unit {0}) E) → Began input play → LinesWritten play.rack play.records held held' r → Writes (PlayerText input) held held' r
file_written input play held held' r b w =
    let f = b.file in
    let all : all_allowed play.records ≡ true = ap all_allowed b.records ∙ b.stands.allowed in
    kind_of (Lines f.policy (new_book f.processors) blank_sheet 0 play.records) (PlayerText input) held held' r
    (λ text l. text_of_file input f b.stands text (subst (λ (rs : List Seen). Lines f.policy (new_book f.processors) blank_sheet 0 rs text) b.records l))
    (w f.processors b.judge f.policy b.made all (omega (arith, b.stands.few, ap length b.records)))

fault_put : (held held' : Known) (r : Result (Unit {0}) Error) (text : List ℕ) → Puts held held' text r → Writes (λ t. t ≡ text) held held' r
fault_put held held' (Ok done) text w = (text, refl, w)
fault_put held held' (Err e) text w = (text, refl, w)

pub fault_written : (input : List ℕ) (fault : PlayerFault) (held held' : Known) (r : Result (Unit {0}) Error) → Unreadable input fault → FaultWritten fault held held' r → Writes (PlayerText input) held held' r
fault_written input fault held held' r u w =
    let text = line_text (unreadable u.found) in
    let put : Puts held held' text r = subst (λ f. FaultWritten f held held' r) u.whole w in
    kind_of (λ t. t ≡ text) (PlayerText input) held held' r
    (λ t is. subst (λ (z : Result File FileFault). TextOf z t) (sym u.its_fault) (is ∙ ap line_text (fault_told input u.found u.its_fault)))
    (fault_put held held' r text put)

-- ==== Writing out at the end

-- a text that is written and then handed on stays written, and where the handing on fails, a front part of it does
pub handed_on : {E : Type 0} (Kind : List ℕ → Type 0) (held mid held' : Known) (r : Result (Unit {0}) E) → WritesAll Kind held mid → Keeps mid held' → Writes Kind held held' r
handed_on Kind held mid held' (Ok done) w k = (w.0, w.1, Appends-kept held mid held' w.0 w.2 k)
handed_on Kind held mid held' (Err e) w k = (
  w.0,
  w.1,
  record {
    count = length w.0;
    appended = subst (Appends held held') (sym (take_all (length w.0) w.0 (omega arith))) (Appends-kept held mid held' w.0 w.2 k);
  },
)

-- so it is with a text that is known
pub told_on : {E : Type 0} (text : List ℕ) (held mid held' : Known) (r : Result (Unit {0}) E) → Appends held mid text → Keeps mid held' → Writes (λ t. t ≡ text) held held' r
told_on text held mid held' r a k = handed_on (λ t. t ≡ text) held mid held' r (text, refl, a) k

-- ==== The whole run

module _ (had had' held held' : Known) (input text : List ℕ) (taken : Taken 65537 had had' input) (is : text ≡ input) where
  pub run_of : (r : Result (Unit {0}) Error) (q : Result (Unit {0}) Halt) → Writes (PlayerText text) held held' r → MatchResult r (λ x. q ≡ Ok x) (λ e. IsErrAnd q (λ h. h ≡ Writing e)) → Runs had had' held held' q
  run_of (Ok done) q w same = subst (Runs had had' held held') (sym same) (input, taken, subst (λ t. WritesAll (PlayerText t) held held') is w)
  run_of (Err e) (Ok done) w same = absurd same
  run_of (Err e) (Err h) w same = subst (λ g. Runs had had' held held' (Err g)) (sym same) (input, taken, subst (λ t. WritesFront (PlayerText t) held held') is w)

  -- where the reader's bytes are known, they are the file
  whole_of : (known : Known) → known ≡ had → WritesAll (PlayerText text) held held' → IfSome known (λ file. WritesAll (PlayerText file) held held')
  whole_of None e w = tt
  whole_of (Some file) e w =
      let front : input ≡ take 65537 file = taken_front 65537 file had' input (subst (λ k. Taken 65537 k had' input) (sym e) taken) in
      (w.0, (front_decides file w.0).0 (subst (λ t. PlayerText t w.0) (is ∙ front) w.1), w.2)

  pub whole_run : (r : Result (Unit {0}) Error) (q : Result (Unit {0}) Halt) → Writes (PlayerText text) held held' r → MatchResult r (λ x. q ≡ Ok x) (λ e. IsErrAnd q (λ h. h ≡ Writing e)) → OnOk q (IfSome had (λ file. WritesAll (PlayerText file) held held'))
  whole_run (Ok done) q w same = subst (λ z. OnOk z (IfSome had (λ file. WritesAll (PlayerText file) held held'))) (sym same) (whole_of had refl w)
  whole_run (Err e) (Ok done) w same = absurd same
  whole_run (Err e) (Err h) w same = tt
