-- What a program leaves of a buffer that is to have 32,768 bytes: in the end, and where it has lent it to a call which yields a text.
use Rattle.std.specs.Prelude.{Ok, Err}
use Prim.Native.Nat.{ℕ, ◌≤◌}
use mathlib.Core.Path.{◌≡◌, sym, ap, ◌∙◌, subst}
use mathlib.Core.List.{List}
use native.Mathlib.Omega.{arith}
use lib.ListN.{length}
use Rattle.graph.specs.declared.Refusal.{Refusal}
use Rattle.graph.specs.Limits.{longest_text}
use Rattle.graph.specs.Refusal.{Outcome, refuses, reported, filled, output}
use Rattle.writer.specs.Written.{Written}
use Rattle.report.specs.declared.Source.TheVariants as Source
use Rattle.report.specs.Report.{refused_line, line_room, composed_bytes, composed_length, Composed}
use Rattle.report.specs.Programs.{came_from, written, whole_text_room}
use Rattle.report.proofs.Parts.{exact_text, exact_line}
use Rattle.report.proofs.Runs.{answer_inside}
use Rattle.problem_reader.proofs.Kept.{reported-yields, reported-refuses}

-- ---- what is left in the end, where the program writes `text`

module _ (text : List ℕ) {before after : List ℕ} {r : ℕ} {xs : List ℕ} (is : text ≡ xs) (long : length before ≡ longest_text) where
  in_the_end : Composed whole_text_room xs before after r → (r ≤ length after) × Composed whole_text_room text before after r
  in_the_end C = answer_inside (subst (λ (t : List ℕ). Composed whole_text_room t before after r) (sym is) C)

  pub line_written : Composed line_room xs before after r → (r ≤ length after) × Composed whole_text_room text before after r
  line_written C = in_the_end (exact_line longest_text long (omega arith) C)

  -- The text fills it.
  pub all_written : Written longest_text xs after r → (r ≤ length after) × Composed whole_text_room text before after r
  all_written W = in_the_end (exact_text longest_text long (W.text ∙ ap (λ n. filled n 0 xs) (sym long)) W.size)

-- ---- the buffer was lent to a call

writes : (of : ℕ → Outcome (List ℕ)) {n : ℕ} (o : Outcome (List ℕ)) → n ≡ longest_text → of n ≡ o
    → written (λ text. text) (came_from Source.Input (of longest_text)) ≡ written (λ text. text) (came_from Source.Input o)
writes of o long is = ap (λ (p : Outcome (List ℕ)). written (λ text. text) (came_from Source.Input p)) (ap of (sym long) ∙ is)

-- The call yields `of n` where its output has n bytes, and has answered a.
module _ (of : ℕ → Outcome (List ℕ)) {before : List ℕ} (long : length before ≡ longest_text) {a : (Outcome ℕ)}
    (says : a ≡ reported length (of (length before))) where
  pub text_left : {k : ℕ} {after : List ℕ} → a ≡ Ok k → after ≡ output (length before) 0 (λ t. t) (of (length before))
      → Composed whole_text_room (written (λ text. text) (came_from Source.Input (of longest_text))) before after k
  text_left {k} {after} is left =
      let y = reported-yields length (of (length before)) k ((sym (is) ∙ says)) in
      subst (λ (t : List ℕ). Composed whole_text_room t before after k) (sym (writes of (Ok y.value) long y.yielded))
      (exact_text longest_text long (left ∙ ap (output (length before) 0 (λ t. t)) y.yielded) (sym y.told))

  -- The line of its refusal was written to what it left, which is as long.
  pub refusal_left : {f : Refusal} {cleared after : List ℕ} {r : ℕ} → a ≡ Err f → length cleared ≡ length before
      → Composed line_room (refused_line Source.Input f.fault f.place) cleared after r
      → Composed whole_text_room (written (λ text. text) (came_from Source.Input (of longest_text))) before after r
  refusal_left {f} {cleared} {after} {r} is kept C =
      let line = refused_line Source.Input f.fault f.place in
      let e = reported-refuses length (of (length before)) f.fault f.place
      ((sym (is) ∙ says)) in
      let D = exact_line longest_text (kept ∙ long) (omega arith) C in
      subst (λ (t : List ℕ). Composed whole_text_room t before after r) (sym (writes of (refuses f.fault f.place) long e))
      (record {
        content = D.content ∙ ap (λ n. composed_bytes (whole_text_room n) n line) kept;
        size = D.size ∙ ap (λ n. composed_length (whole_text_room n) line) kept;
      })
