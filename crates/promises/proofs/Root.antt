-- Every promise is kept.
use Rattle.promises.specs.Promises.{Promises}
use Rattle.promises.proofs.Kept.{numbers_listed, zero-after-refusal, read-as-defined, reads-back, largest-merit, refused-just-where-listed}
use Rattle.promises.proofs.Kept.{solver-certifies, measured-means, optimum-exists, index-laid-out, index-lists-edges, one_index}
use Rattle.promises.proofs.Programs.{solve-writes, mark-writes}
use Rattle.promises.proofs.Rewritten.{one_way, old-texts-rewritten, new-texts-kept, copies-the-rest, cannot-read, plan-of-some-sheet}
use Rattle.promises.proofs.Rewritten.{read-sheets-pass}
use Rattle.promises.proofs.Tidied.{any-sheet-tidied, tidy-kept, tidied-alike, plans-kept}
use Rattle.promises.proofs.HalfPoints.{counted-in-half-points, solver_prices-even, twice-what-is-lacking, stored-prices-doubled}
use Rattle.promises.proofs.Assignments.{there_and_back, only-unit-bounds, bounds-come-in-as-one, read-assignments-pass, sheets-there-and-back}
use Rattle.promises.proofs.Tanks.{doubled-passes, tank-prices-cover, twice-the-best, tank-plans-measured, price-tanks-writes}

pub promises : Promises
promises = record {
  listed = numbers_listed;
  zero_after_refusal = zero-after-refusal;
  read_as_defined = read-as-defined;
  reads_back = reads-back;
  largest_merit = largest-merit;
  refused_just_where_listed = refused-just-where-listed;
  solver_certifies = solver-certifies;
  measured_means = measured-means;
  optimum_exists = optimum-exists;
  solve_writes = solve-writes;
  mark_writes = mark-writes;
  index_laid_out = index-laid-out;
  index_lists_edges = index-lists-edges;
  one_index = one_index;
  one_way = one_way;
  old_texts_rewritten = old-texts-rewritten;
  new_texts_kept = new-texts-kept;
  copies_the_rest = copies-the-rest;
  cannot_read = cannot-read;
  plan_of_some_sheet = plan-of-some-sheet;
  read_sheets_pass = read-sheets-pass;
  any_sheet_tidied = any-sheet-tidied;
  tidy_kept = tidy-kept;
  tidied_alike = tidied-alike;
  plans_kept = plans-kept;
  counted_in_half_points = counted-in-half-points;
  solver_prices_even = solver_prices-even;
  twice_what_is_lacking = twice-what-is-lacking;
  stored_prices_doubled = stored-prices-doubled;
  there_and_back = there_and_back;
  only_unit_bounds = only-unit-bounds;
  bounds_come_in_as_one = bounds-come-in-as-one;
  read_assignments_pass = read-assignments-pass;
  sheets_there_and_back = sheets-there-and-back;
  doubled_passes = doubled-passes;
  tank_prices_cover = tank-prices-cover;
  twice_the_best = twice-the-best;
  tank_plans_measured = tank-plans-measured;
  price_tanks_writes = price-tanks-writes;
}
