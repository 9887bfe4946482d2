-- The end that is found, the walk back and the count keep all.
use Rattle.std.proofs.Common.{◌≡◌, ◌∙◌, ap, length, arith, rules}
use mathlib.Core.Bool.{true≢false}
use Rattle.method.specs.Tree.{entries}
use Rattle.method.specs.Lists.{starts}
use Rattle.method.proofs.Solvable.{small}
use Rattle.method.proofs.Lists.{reweigh}
use Rattle.scan.specs.Scan.{list_stop}
use Rattle.search.proofs.Spans.{spanned}
use Rattle.search.proofs.Path.{ranked, relistable, countable, walked, found, kept}
use Rattle.search.proofs.search.Goals as goal

pub list_of-places-requires : goal.list_of-places-requires
list_of-places-requires c =
    let given = c.requires.given in
    let ended = c.find_end.ensures.finds.found c.in-Some.tree c.in-Some.is in
    let span = spanned given c.requires.between ended.inside in
    rw c.find_end.ensures.used (record { inside = span.inside; room = λ l. omega (arith, span.room l, small given.net) })

pub augment-requires-clause-ranked : goal.augment-requires-clause-ranked
augment-requires-clause-ranked c = ranked c.requires.given.net (c.find_end.ensures.finds.found c.in-Some.tree c.in-Some.is)

pub augment-requires-clause-relistable : goal.augment-requires-clause-relistable
augment-requires-clause-relistable c =
    let given = c.requires.given in
    let ended = c.find_end.ensures.finds.found c.in-Some.tree c.in-Some.is in
    let long : length c.args.place.now ≡ 1024 = search rules in
    relistable _ _ given c.requires.between ended (omega (arith, long, small given.net))
    (c.list_of-places.ensures.1 ∙ ap (λ u. list_stop c.args.s.rows (starts c.args.table.now) (entries u) c.in-Some.tree.end) c.find_end.ensures.used)

pub count_path-requires : goal.count_path-requires
count_path-requires c =
    let ended = c.find_end.ensures.finds.found c.in-Some.tree c.in-Some.is in
    rw c.find_end.ensures.used (countable c.requires.given.net c.requires.between ended c.requires.rooted.room)

pub returns : goal.returns
returns c =
    let net = c.requires.given.net in
    let between = c.requires.between in
    let ended = c.find_end.ensures.finds.found c.in-Some.tree c.in-Some.is in
    let path = walked net ended c.augment.ensures.by_index in
    let counted = rw c.find_end.ensures.used at c.count_path.ensures in
    let lists = reweigh c.augment.ensures.listing.0 in
    record {
      searched = record {
        found = λ e. (found net between ended c.requires.rooted.room path, kept net between ended c.requires.rooted.room path counted lists);
        none = λ e. absurd (true≢false e);
      };
    }
