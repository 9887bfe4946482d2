-- What a program leaves of its buffer, by how far it has come: one law for every stage that reads a text or makes a call, and hands on what it has.
use Prim.Native.Nat.{ℕ, ◌≤◌}
use mathlib.Core.Path.{◌≡◌, sym, ap, ◌∙◌, subst}
use mathlib.Core.Logic.{◌≢◌}
use mathlib.Core.Bool.{Bool}
use mathlib.Core.List.{List}
use native.Mathlib.Omega.{arith}
use borrow.Author.Tests.{le-leb, eq-eqb}
use lib.Dec.{eqb}
use lib.ListN.{length, replicate}
use Rattle.graph.specs.declared.Fault.{Fault}
use Rattle.report.specs.declared.Source.{Source}
use Rattle.report.specs.Report.{refused_line, line_bytes, line_room, composed_bytes, composed_length, Composed}
use Rattle.report.specs.Programs.{Run, has, ends, and_then, written}
use Rattle.report.proofs.Parts.{composed_inside, exact_none}

-- A stage has come as far as R says, and the program goes on with `run`, and writes `text` of what that has where there is `room`.
module _ {A B : Type 0} (room : ℕ → Bool) (text : A → List ℕ) (run : B → Run A) {R : Run B} {before after : List ℕ} {r : ℕ} where
  as_far : {S : Run B} → S ≡ R → Composed room (written text (and_then S run)) before after r → Composed room (written text (and_then R run)) before after r
  as_far e C = subst (λ (Q : Run B). Composed room (written text (and_then Q run)) before after r) e C

  -- It has b, and what comes of b was written.
  pub run-goes : {b : B} → has b ≡ R → Composed room (written text (run b)) before after r → Composed room (written text (and_then R run)) before after r
  run-goes e C = as_far e C

  -- A refusal has ended it, and its line was written: there is room for that where there is room.
  pub run_ends : {source : Source} {fault : Fault} {place : ℕ} → ends source fault place ≡ R → line_room (length before) ≡ room (length before)
      → Composed line_room (refused_line source fault place) before after r → Composed room (written text (and_then R run)) before after r
  run_ends {source} {fault} {place} e same C = as_far e (record {
    content = C.content ∙ ap (λ (b : Bool). composed_bytes b (length before) (refused_line source fault place)) same;
    size = C.size ∙ ap (λ (b : Bool). composed_length b (refused_line source fault place)) same;
  })

-- What is answered in the end is within what is left.
pub answer_inside : {room : ℕ → Bool} {text before after : List ℕ} {r : ℕ} → Composed room text before after r → (r ≤ length after) × Composed room text before after r
answer_inside C = (composed_inside C, C)

-- A buffer of just k bytes has room for a line; where it has another length, it was cleared.
module _ (k : ℕ) where
  pub line-fits : {n : ℕ} → line_bytes ≤ k → n ≡ k → line_room n ≡ eqb n k
  line-fits {n} few long = le-leb line_bytes n (omega arith) ∙ sym (eq-eqb n k long)

  pub nothing_left : (text : List ℕ) {before after : List ℕ} → length before ≢ k → after ≡ replicate (length before) 0
      → (0 ≤ length after) × Composed (λ n. eqb n k) text before after 0
  nothing_left text wrong cleared = (omega arith, exact_none k text wrong cleared)
