-- The mask of k ones is the remainder by 2 ^ k; a word has no bit from bit 64 on.
use Rattle.std.proofs.Common.{◌^◌, ◌≤◌, ◌-◌, ap, sym, ◌∙◌, arith, bit_and}
use native.Mathlib.Nat.{one-mul, mod-eq_of_lt, lt_of_lt_of_le}
use lib.Bits.{and_mask}
use lib.Dec.{lit<}
use lib.Pow.{pow_mono, shl_exact}
use Rattle.bits.proofs.low.Goals as goal

pub returns-then-k : goal.returns-then-k
returns-then-k c =
    let k = c.args.k in
    ap (λ m. bit_and c.args.word (m - 1)) (shl_exact {a = 1} 1 k 64 (lit< tt) (omega arith) ∙ one-mul (2 ^ k)) ∙ and_mask c.args.word k

pub returns-else-k : goal.returns-else-k
returns-else-k c =
    let h : 64 ≤ c.args.k = omega arith in
    sym (mod-eq_of_lt (lt_of_lt_of_le c.ranges.word.fits (pow_mono h)))
