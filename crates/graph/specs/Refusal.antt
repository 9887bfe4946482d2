-- What a call yields: a result, or a refusal with its place; and the order in which tests refuse.
use Rattle.std.specs.Prelude.{ℕ, zero, suc, ◌-◌, Bool, cond, List, [], ◌∷◌, ◌++◌, length, replicate, Option, None, Some, Result, Ok, Err}
use Rattle.graph.specs.declared.Fault.{Fault}
use Rattle.graph.specs.declared.Refusal.{Refusal}
use Rattle.graph.specs.declared.Fault.TheVariants.{TextLength, Header, SizeLine, Sizes, LaterLine, Ends, Weight, SameEnds}
use Rattle.graph.specs.declared.Fault.TheVariants.{LentLength, Bound, Mark, Degree, Price, OddSet, Uncovered, NotBipartite, Disagreement, WrongIndex}
use Rattle.graph.specs.declared.Fault.TheVariants.{BoundNotOne, AssignmentLine, Sources, NotDoubled}

-- The refusal table of documents 01 and 02: each fault's number.
abbrev pub number_of : Fault → ℕ
-- text over 32,768 bytes
number_of TextLength = 1
-- first line absent, too long or no accepted header
number_of Header = 2
-- size line absent, malformed or too long
number_of SizeLine = 3
-- sizes outside the ranges, or not the count asked for
number_of Sizes = 4
-- later line malformed, too long, missing or surplus
number_of LaterLine = 5
-- an end out of range or on the wrong side
number_of Ends = 6
-- weight (merit) out of range
number_of Weight = 7
-- same ends as an earlier edge (pair)
number_of SameEnds = 8
-- a lent length wrong
number_of LentLength = 9
-- bound (limit) out of range
number_of Bound = 10
-- mark neither 0 nor 1
number_of Mark = 11
-- degree (uses) over a vertex's bound
number_of Degree = 12
-- price out of range
number_of Price = 13
-- an odd set (group) breaks a rule, or there are over 16
number_of OddSet = 14
-- an edge not covered
number_of Uncovered = 15
-- a general (one-sided) graph given to the solver
number_of NotBipartite = 16
-- a plan's kind, rows, columns or count disagree with the graph, or its edge is not in it
number_of Disagreement = 17
-- the lent index is not the graph's
number_of WrongIndex = 18
-- a bound (limit) is not 1
number_of BoundNotOne = 19
-- a DIMACS line malformed, out of turn, too long, missing or surplus
number_of AssignmentLine = 20
-- the source nodes are not 1 up to their count in rising order
number_of Sources = 21
-- a bipartite (two-sided) graph, or one with too many vertices or edges, given to the call that doubles it
number_of NotDoubled = 24

-- What a call yields: a result, or a refusal: a fault and its place.
abbrev pub Outcome : Type 0 → Type 0
Outcome A = Result A Refusal

abbrev pub refuses : {A : Type 0} → Fault → ℕ → Outcome A
refuses fault place = Err (record { fault = fault; place = place })

-- What an answer tells of it: the result, or the refusal's number of the table and its place.
pub data Told (A : Type 0) : Type 0 where
  tells : A → Told A
  refused_with : ℕ → ℕ → Told A

abbrev pub told : {A : Type 0} → Outcome A → Told A
told (Ok a) = tells a
told (Err refusal) = refused_with (number_of refusal.fault) refusal.place

-- A test of a call: the fault it refuses with, over how many items it is tested, which place an item has, and what an accepted item keeps.
pub record Test : Type 0 where
  pub fault : Fault
  pub items : ℕ
  pub place : ℕ → ℕ
  pub keeps : ℕ → Bool

-- A test that is made once, at place 0.
abbrev pub once : Fault → Bool → Test
once f b = record { fault = f; items = 1; place = λ k. 0; keeps = λ k. b }

-- A test of each of n items. Items count from 0 here, and places from 1.
abbrev pub each : Fault → ℕ → (ℕ → Bool) → Test
each f n keeps = record { fault = f; items = n; place = suc; keeps = keeps }

abbrev pub or_else : Option ℕ → Option ℕ → Option ℕ
or_else None b = b
or_else (Some k) b = Some k

-- The lowest of the items 0 .. n - 1 that does not keep the test, if there is one.
abbrev pub lowest : ℕ → (ℕ → Bool) → Option ℕ
lowest zero keeps = None
lowest (suc n) keeps = or_else (lowest n keeps) (cond (keeps n) None (Some n))

abbrev pub found : {A : Type 0} → Test → Option ℕ → Outcome A → Outcome A
found t None rest = rest
found t (Some k) rest = refuses t.fault (t.place k)

-- The tests in their order, each over all items before the next; the lowest place is reported. Where none refuses, the rest is yielded.
abbrev pub passing : {A : Type 0} → List Test → Outcome A → Outcome A
passing [] rest = rest
passing (t ∷ ts) rest = found t (lowest t.items t.keeps) (passing ts rest)

-- What is reported of a result; a refusal stays.
abbrev pub reported : {A B : Type 0} → (A → B) → Outcome A → Outcome B
reported f (Ok a) = Ok (f a)
reported f (Err refusal) = refuses refusal.fault refusal.place

-- What a lent output of n numbers holds afterwards: the result's numbers and then z, which is 0, or only z after a refusal.
abbrev pub filled : {N : Type 0} → ℕ → N → List N → List N
filled n z xs = xs ++ replicate (n - length xs) z

abbrev pub output : {A N : Type 0} → ℕ → N → (A → List N) → Outcome A → List N
output n z f (Ok a) = filled n z (f a)
output n z f (Err refusal) = replicate n z
