-- The index is built in the front of an array, and marks are lent from an array of zeros.
use Rattle.std.proofs.Common.{◌≤◌, length, arith}
use Rattle.general_pricer.proofs.Lent.{index_first, zeros-first}
use Rattle.general_pricer.proofs.solve_prices.Goals as goal

pub optimise-requires-clause-index_value : goal.optimise-requires-clause-index_value
optimise-requires-clause-index_value c =
    let a = c.args in
    let sound = c.requires.solvable.passed.sound in
    let room : c.index_numbers-k.result ≤ length c.fill_index.new.index =
    omega (arith, c.index_numbers-k.ensures, sound.sizes.order, sound.sizes.few, c.fill_index.auto.index) in
    index_first a.s a.row.now a.column.now a.weight.now c.fill_index.new.index sound c.index_numbers-k.ensures room c.fill_index.ensures

pub optimise-requires-clause-chosen_value : goal.optimise-requires-clause-chosen_value
optimise-requires-clause-chosen_value c = zeros-first 0 1024 c.requires.solvable.passed.sound.sizes.few
