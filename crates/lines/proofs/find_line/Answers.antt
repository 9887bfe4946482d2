use Rattle.std.proofs.Common.{◌≤◌, length, sym, ◌∙◌, rules, of_calls}
use Rattle.std.specs.Fn.{FnReturnsAt}
use Rattle.text.proofs.Lined.{lined}
use Rattle.lines.specs.Found.{part}
use Rattle.lines.proofs.Search.{came_on, search_ends, search_long, search_finds, search_more}
use Rattle.lines.proofs.find_line.Goals as goal

pub slice_bounds-bytes-end : goal.slice_bounds-bytes-end
slice_bounds-bytes-end g c =
    let k = lined _ _ _ c.in-Some.ensures in
    let f : c.in-Some.line.start ≤ c.in-Some.line.end = k.forward in
    let e : c.in-Some.line.end ≤ length c.args.s.now = k.inside in
    search rules

pub returns-then-long : goal.returns-then-long
returns-then-long g c = λ skip t.
    search_long _ _ _ c.loop-line.invariant.came _ (lined _ _ _ c.in-Some.ensures) skip (c.loop-line.invariant.same skip t) c.if-long.true

pub returns-then-not-skips : goal.returns-then-not-skips
returns-then-not-skips g c = λ skip t.
    let told : FnReturnsAt g.F.Fn c.args.skips (part c.args.s.now c.in-Some.line.start c.in-Some.line.end) c.skips.result = search of_calls in
    search_finds _ _ _ c.loop-line.invariant.came _ (lined _ _ _ c.in-Some.ensures) skip (c.loop-line.invariant.same skip t) c.if-long.false
    (sym (t _ _ told) ∙ c.if-not-skips.true)

pub loop-line-preserved : goal.loop-line-preserved
loop-line-preserved g c = record {
  came = came_on _ _ _ c.loop-line.invariant.came _ (lined _ _ _ c.in-Some.ensures);
  same = λ skip t.
      let told : FnReturnsAt g.F.Fn c.args.skips (part c.args.s.now c.in-Some.line.start c.in-Some.line.end) c.skips.result = search of_calls in
      search_more _ _ _ c.loop-line.invariant.came _ (lined _ _ _ c.in-Some.ensures) skip (c.loop-line.invariant.same skip t) c.if-long.false
      (sym (t _ _ told) ∙ c.if-not-skips.false);
}

pub returns : goal.returns
returns g c = λ skip t. search_ends _ _ _ c.loop-line.invariant.came c.in_default.ensures skip (c.loop-line.invariant.same skip t)
