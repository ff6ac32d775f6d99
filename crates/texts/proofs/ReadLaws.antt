-- The three ways that reading a text goes: storage too short, bytes that are refused, tokens.
use Prim.Native.Nat.{ℕ}
use mathlib.Core.Path.{◌≡◌, refl, ap, ◌∙◌, sym}
use mathlib.Core.Bool.{Bool, true, false}
use mathlib.Core.List.{List}
use Rattle.words.specs.Twins.Cutting.{bytes_at}
use Rattle.lexer.specs.Twins.Lexed.{State, Out, starting}
use Rattle.lent.specs.Storage.{zeros, roomy}
use Rattle.texts.specs.Twins.ReadCells.{ReadAnswer, FoundOut, settled, kept, cleared, untouched, after_cut, after_bytes, if_roomy, program_cut, program_cells, job_cut, job_cells}
use Rattle.syntax.specs.Twins.ReadAnswer.{program_judged, job_judged}
use Rattle.grammar.specs.Twins.Positions.{on_past}
use Rattle.lexer.specs.declared.lexer.Cut.{Cut}
use Rattle.lexer.proofs.CutLengths.{SameLengths, cut_lengths}
use Rattle.refusals.specs.declared.refusal.Refusal.{Refusal}
use Rattle.lent.specs.declared.read.Unread.TheVariants.{Refused}
use Rattle.std.specs.Prelude.{Result, Ok, Err}
use native.Mathlib.Omega.{arith}
use lib.ListN.{length, replicate}

-- the storages of a refused text are nought, whatever was cut before
pub cleared_alike : (r : Refusal) (m n a y x marks nums ats symbols names : List ℕ) →
    length m ≡ length marks → length n ≡ length nums → length a ≡ length ats → length y ≡ length symbols → length x ≡ length names → cleared r m n a y x ≡ cleared r marks nums ats symbols names
cleared_alike r m n a y x marks nums ats symbols names p q t u v = λ i. record {
  answer = Err (Refused r);
  marks = replicate (p i) 0;
  nums = replicate (q i) 0;
  ats = replicate (t i) 0;
  symbols = replicate (u i) 0;
  names = replicate (v i) 0;
}

pub cleared_lengths : (r : Refusal) (s u : State) → SameLengths s u → cleared r u.marks u.nums u.ats u.symbols u.names ≡ cleared r s.marks s.nums s.ats s.symbols s.names
cleared_lengths r s u l = cleared_alike r u.marks u.nums u.ats u.symbols u.names s.marks s.nums s.ats s.symbols s.names l.marks l.nums l.ats l.symbols l.names

-- what was found is answered, and what was cut is left: `marks` .. before, `s` behind the cutting, `m` .. where it is left
module _ (s : State) (marks nums ats symbols names : List ℕ) (before : ℕ) (l : SameLengths (starting marks nums ats symbols names before) s) (m n a y x : List ℕ)
    (m-same : length m ≡ length marks) (n-same : length n ≡ length nums) (a-same : length a ≡ length ats) (y-same : length y ≡ length symbols) (x-same : length x ≡ length names) where
  before_cut : (r : Refusal) → cleared r m n a y x ≡ cleared r marks nums ats symbols names
  before_cut r = cleared_alike r m n a y x marks nums ats symbols names m-same n-same a-same y-same x-same

  kept_cut : (cut : Cut) → Out cut m n a y x s → settled (Ok cut) m n a y x ≡ kept s
  kept_cut cut o = λ i. record {
    answer = Ok (record { tokens = o.tokens i; symbols = o.found i });
    marks = o.marks_out i;
    nums = o.nums_out i;
    ats = o.ats_out i;
    symbols = o.symbols_out i;
    names = zeros (o.names_out i);
  }

  settled_lem : (r : Result Cut Refusal) (bytes judged : Result ℕ Refusal) → FoundOut r m n a y x (on_past (λ k. judged) bytes) s → settled r m n a y x ≡ after_bytes bytes marks nums ats symbols names (after_cut s judged)
  settled_lem (Ok cut) (Ok i) (Ok k) o = kept_cut cut (o.kept cut refl).1
  settled_lem (Ok cut) (Ok i) (Err f) o = let e = (o.kept cut refl).0.1 in let z : ◌≡◌ {A = ℕ} 0 1 = cc in absurd (omega arith)
  settled_lem (Ok cut) (Err f) g o = let e = (o.kept cut refl).0.1 in let z : ◌≡◌ {A = ℕ} 0 1 = cc in absurd (omega arith)
  settled_lem (Err r) (Ok i) (Ok k) o = let e = o.refused r refl in let z : ◌≡◌ {A = ℕ} 0 1 = cc in absurd (omega arith)
  settled_lem (Err r) (Ok i) (Err f) o = let g = o.refused r refl in let e : r ≡ f = cc in before_cut r ∙ sym (cleared_lengths r (starting marks nums ats symbols names before) s l) ∙ ap (λ r. cleared r s.marks s.nums s.ats s.symbols s.names) e
  settled_lem (Err r) (Err f) g o = let h = o.refused r refl in let e : r ≡ f = cc in before_cut r ∙ ap (λ r. cleared r marks nums ats symbols names) e

module _ (marks nums ats symbols names : List ℕ) where
  module _ (text : List ℕ) where
    abbrev tokens : ReadAnswer
    tokens = let s = program_cut text marks nums ats symbols names in after_cut s (program_judged s.marks s.nums s.ats s.i)

    pub program_short : roomy marks nums ats symbols names ≡ false → program_cells text marks nums ats symbols names ≡ untouched marks nums ats symbols names
    unfolding program_cells
    program_short e = ap (λ b. if_roomy b marks nums ats symbols names (after_bytes (bytes_at 32768 text) marks nums ats symbols names tokens)) e

    module _ (long : roomy marks nums ats symbols names ≡ true) where
      pub program_bytes_lem : (g : Result ℕ Refusal) → bytes_at 32768 text ≡ g → program_cells text marks nums ats symbols names ≡ after_bytes g marks nums ats symbols names tokens
      unfolding program_cells
      program_bytes_lem g e =
          ap (λ b. if_roomy b marks nums ats symbols names (after_bytes (bytes_at 32768 text) marks nums ats symbols names tokens)) long
          ∙ ap (λ g. after_bytes g marks nums ats symbols names tokens) e

      pub program_found : (m n a y x : List ℕ) → length m ≡ length marks → length n ≡ length nums → length a ≡ length ats → length y ≡ length symbols → length x ≡ length names → (r : Result Cut Refusal) →
          (let s = program_cut text marks nums ats symbols names in FoundOut r m n a y x (on_past (λ k. program_judged s.marks s.nums s.ats s.i) (bytes_at 32768 text)) s) →
          settled r m n a y x ≡ program_cells text marks nums ats symbols names
      program_found m n a y x p1 p2 p3 p4 p5 r o =
          let s = program_cut text marks nums ats symbols names in
          settled_lem s marks nums ats symbols names 0 (cut_lengths false text text 4097 (starting marks nums ats symbols names 0)) m n a y x p1 p2 p3 p4 p5 r (bytes_at 32768 text) (program_judged s.marks s.nums s.ats s.i) o
          ∙ sym (program_bytes_lem (bytes_at 32768 text) refl)

  module _ (runs : Bool) (program main : List ℕ) (m : ℕ) (text : List ℕ) (before : ℕ) where
    abbrev job_tokens : ReadAnswer
    job_tokens = let s = job_cut program text marks nums ats symbols before names in after_cut s (job_judged runs main m text s.marks s.nums s.ats s.i)

    pub job_short : roomy marks nums ats symbols names ≡ false → job_cells runs program main m text marks nums ats symbols before names ≡ untouched marks nums ats symbols names
    unfolding job_cells
    job_short e = ap (λ b. if_roomy b marks nums ats symbols names (after_bytes (bytes_at 8192 text) marks nums ats symbols names job_tokens)) e

    module _ (long : roomy marks nums ats symbols names ≡ true) where
      pub job_bytes_lem : (g : Result ℕ Refusal) → bytes_at 8192 text ≡ g → job_cells runs program main m text marks nums ats symbols before names ≡ after_bytes g marks nums ats symbols names job_tokens
      unfolding job_cells
      job_bytes_lem g e =
          ap (λ b. if_roomy b marks nums ats symbols names (after_bytes (bytes_at 8192 text) marks nums ats symbols names job_tokens)) long
          ∙ ap (λ g. after_bytes g marks nums ats symbols names job_tokens) e

      pub job_found : (m2 n a y x : List ℕ) → length m2 ≡ length marks → length n ≡ length nums → length a ≡ length ats → length y ≡ length symbols → length x ≡ length names → (r : Result Cut Refusal) →
          (let s = job_cut program text marks nums ats symbols before names in FoundOut r m2 n a y x (on_past (λ k. job_judged runs main m text s.marks s.nums s.ats s.i) (bytes_at 8192 text)) s) →
          settled r m2 n a y x ≡ job_cells runs program main m text marks nums ats symbols before names
      job_found m2 n a y x p1 p2 p3 p4 p5 r o =
          let s = job_cut program text marks nums ats symbols before names in
          settled_lem s marks nums ats symbols names before (cut_lengths true program text 4097 (starting marks nums ats symbols names before)) m2 n a y x p1 p2 p3 p4 p5 r (bytes_at 8192 text) (job_judged runs main m text s.marks s.nums s.ats s.i) o
          ∙ sym (job_bytes_lem (bytes_at 8192 text) refl)
