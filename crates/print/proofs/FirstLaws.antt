-- What `list_first` promises: `list` and the beginning of what `print_list` prints, at once.
use Prim.Native.Nat.{ℕ, ◌-◌, min}
use mathlib.Core.Path.{◌≡◌, ap, ap₂, ◌∙◌, sym as inv}
use mathlib.Core.Bool.{Bool, false}
use mathlib.Core.List.{List}
use native.Mathlib.Omega.{arith}
use lib.ListN.{length}
use Rattle.language.specs.Source.{SProg, SJob, prog, class}
use Rattle.language.specs.JobCheck.{lister}
use Rattle.language.specs.Reading.{accepted, reading}
use Rattle.listing.specs.Text.{print_refusal}
use Rattle.semantics.specs.Answer.{limits}
use Rattle.reading.specs.Twins.BothCells.{both_over}
use Rattle.answers.specs.Headings.{heading_of}
use Rattle.answers.specs.ListNumbers.{Answer}
use Rattle.refusals.specs.declared.refusal.Refused.TheVariants.{Short}
use Rattle.std.specs.Prelude.{Err}
use Rattle.lent.proofs.RoomLaws.{long_enough_lem}
use Rattle.resolve.specs.ListAnswer.{too_short, list_left}
use Rattle.resolve.specs.ListDemand.{Answered, StoredListing}
use Rattle.resolve.specs.Twins.ListCells.{ListOut, list_texts}
use Rattle.resolve.proofs.ListDemand.{LeftAs, promised, list_said}
use Rattle.window.specs.Windows.{windowed, Printed}
use Rattle.print.specs.Twins.ListedText.{read_listing, headed_text, listed_with, text_with}
use Rattle.print.proofs.Printed.{with_printed, first_printed}

module _ (samples : Bool) (program job work d : List ℕ) where
  -- the text of what `list` leaves
  abbrev pub first_text : List ℕ
  first_text = let w = list_left program job work d in listed_with samples program job w.cells w.answer

  -- of an answer, the bytes printed, the two storages and a page of n bytes
  abbrev pub Promise : ℕ → Answer → ℕ → List ℕ → List ℕ → List ℕ → Type 0
  Promise n r bytes x a page =
      (let w = list_left program job work d in
      let text = listed_with samples program job w.cells w.answer in ((r ≡ w.answer) × (x ≡ w.work) × (a ≡ w.cells)) × ((bytes ≡ min n (length text)) × (page ≡ windowed n 0 text)))
      × (too_short work d ≡ false → first_text ≡ text_with samples program job)
      × ((s : SProg) (t : SJob) → reading lister program job ≡ accepted s t → Answered r → StoredListing (prog s) (class t) t.steps.num (limits t) r a)

  first_promised : (n : ℕ) {text : List ℕ} {r : Answer} {bytes : ℕ} {x a page : List ℕ} → LeftAs program job work d r x a → text ≡ first_text → Printed n 0 text bytes page → Promise n r bytes x a page
  first_promised n {text = text} e f p =
      let z : length text - 0 ≡ length text = omega arith in
      let q = promised program job work d e in
      ((q.0, (p.0 ∙ ap (min n) z ∙ ap (λ (t : List ℕ). min n (length t)) f, p.1 ∙ ap (windowed n 0) f)), λ long. with_printed program job work d long samples, q.1)

  pub short_promised : (n : ℕ) {r : Answer} {bytes : ℕ} {page : List ℕ} → r ≡ Err Short → LeftAs program job work d (Err Short) work d → Printed n 0 (print_refusal 45 20 0) bytes page → Promise n r bytes work d page
  short_promised n f e p = first_promised n (f ∙ e.0, e.1, e.2) (ap (λ (a : Answer). listed_with samples program job (list_left program job work d).cells a) e.0) p

  pub texts_promised : (n : ℕ) → too_short work d ≡ false → {r : Answer} {bytes : ℕ} {x a page : List ℕ} → ListOut r x a (list_texts program job work d) → length a ≡ length d →
      Printed n 0 (headed_text (read_listing samples program job (both_over false program job work) a) (heading_of r)) bytes page → Promise n r bytes x a page
  texts_promised n long o k p =
      let e = list_said program job work d long o k in
      let l = (long_enough_lem 8194 17408 (length work) (length d) long).0 in
      first_promised n e
      (ap₂ (λ (c : List ℕ) (z : Answer). headed_text (read_listing samples program job (both_over false program job work) c) (heading_of z)) e.2 e.0 ∙ first_printed program job work d long samples l ∙ inv (with_printed program job work d long samples)) p
