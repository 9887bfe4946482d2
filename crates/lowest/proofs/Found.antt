-- What an iterator answers that looks for the lowest item that breaks a test, for some item with a property, or whether each has it.
use Rattle.std.proofs.Common.{◌≡◌, Bor, ℕ, zero, suc, ◌<◌, ◌≤◌, Bool, true, false, cond, not, ◌&&◌, ◌||◌, List, [], ◌∷◌, length, get_or, refl, sym, ap, ◌∙◌, arith, ltb}
use Rattle.std.specs.Prelude.{Option, None, Some, zip}
use Rattle.std.specs.List.{position_or_len, find, list_any, list_all, slice_get, range_with_len, FoldsTo}
use Rattle.std.specs.Fn.{Called, CalledAt}
use Rattle.std.specs.Iterator.{YieldsThen}
use Rattle.std.specs.Bool.{⊤}
use Rattle.std.specs.Option.{MatchOption}
use Rattle.std.specs.declared.ops.Range.{Range}
use Rattle.std.proofs.iter.Yields.{nat_range_steps}
use Rattle.std.proofs.lemmas.Iterator.{YieldsList, YieldsList-from_range}
use Rattle.std.proofs.lemmas.Iterator.Search.{position_from_yields_List, find_from_yields_List, any_from_yields_List, all_from_yields_List}
use Rattle.std.proofs.lemmas.List.Sums.{fails_before_first, passes_at_first}
use Rattle.std.proofs.lemmas.Slice.Zip.{length-zip, get_or-zip}
use Rattle.std.proofs.lemmas.Iterator.Adapters.{option_map_id}
use Rattle.std.proofs.lemmas.Option.{slice_get-get_or, slice_get_past}
use Rattle.std.proofs.lemmas.List.Folds.{find_at}
use Rattle.std.proofs.lemmas.List.FromFn.{length-range_with_len, get_or-range_with_len}
use mathlib.Core.Bool.{or-false, or_assoc}
use denote.Param.Members.{Mut}
use borrow.Author.Tests.{not-true, not-false, ltb-true, ltb-false}
use Rattle.graph.specs.Refusal.{lowest}
use Rattle.graph.specs.Graph.{some?, every}
use Rattle.graph.proofs.Passing.{none_lowest, some_lowest, lowest-cong, some_cong}

module _ {X : Type 0} (keeps : X → Bool) (xs : List X) (d : X) where
  -- The first element that does not keep the test, as `position` tells of it.
  abbrev first : ℕ
  first = position_or_len (λ x. not (keeps x)) xs

  abbrev keeps_at : ℕ → Bool
  keeps_at k = keeps (get_or xs k d)

  lowest-position : cond (ltb first (length xs)) (Some first) None ≡ lowest (length xs) keeps_at
  lowest-position = go (ltb first (length xs)) refl
    where
      go : (b : Bool) → ltb first (length xs) ≡ b → cond b (Some first) None ≡ lowest (length xs) keeps_at
      go true e =
          let l : first < length xs = ltb-true first (length xs) e in
          sym (some_lowest (length xs) keeps_at first (record {
            among = l;
            breaks = not-true (keeps_at first) (passes_at_first (λ x. not (keeps x)) xs d l);
            before = λ j m. not-false (keeps_at j) (fails_before_first (λ x. not (keeps x)) xs j d m);
          }))
      go false e =
          let l : length xs ≤ first = ltb-false first (length xs) e in
          sym (none_lowest (length xs) keeps_at (λ j m. not-false (keeps_at j) (fails_before_first (λ x. not (keeps x)) xs j d (omega arith))))

-- What `position` answers over a list of items.
module _ {S A B F : Type 0} {steps : S → Option A → S → Type 0} {v : A → B} {g : Mut F (A × Unit {0}) Bool} {s : S} {all : List B} where
  pub lowest_found : (keeps : B → Bool) (d : B) (u : S) (f : F) (r : Option ℕ) →
      (xs : List A) × (o : Option A) × (j : F) × YieldsThen steps s xs o u × FoldsTo (λ p x q. Called g p (x, tt) false q) f xs j
      × MatchOption o (r ≡ None) (λ x. (r ≡ Some (length xs)) × ((h : F) × Called g j (x, tt) true h)) →
      YieldsList steps v s all → ((x : A) (b : Bool) (q : F) → Called g f (x, tt) b q → (q ≡ f) × (b ≡ not (keeps (v x)))) →
      r ≡ lowest (length all) (λ k. keeps (get_or all k d))
  lowest_found keeps d u f r ran yields answers = position_from_yields_List (λ x. not (keeps x)) u f r ran yields answers ∙ lowest-position keeps all d

-- Two lists side by side: the pairs are as many as the shorter list has elements.
module _ {A B : Type 0} (keeps : A × B → Bool) (xs : List A) (ys : List B) (d : A × B) where
  pub lowest-zip : length xs ≤ length ys → lowest (length (zip xs ys)) (λ k. keeps (get_or (zip xs ys) k d)) ≡ lowest (length xs) (λ k. keeps (get_or xs k d.0, get_or ys k d.1))
  lowest-zip l =
      let n : length (zip xs ys) ≡ length xs = length-zip xs ys ∙ omega arith in
      ap (λ m. lowest m (λ k. keeps (get_or (zip xs ys) k d))) n
      ∙ lowest-cong (length xs) (λ k. keeps (get_or (zip xs ys) k d)) (λ k. keeps (get_or xs k d.0, get_or ys k d.1))
      (λ k m. ap keeps (get_or-zip xs ys k d m (omega arith)))

-- Numbers from 0 on: what holds of each of the list holds of each number.
module _ (n : ℕ) where
  abbrev numbers : List ℕ
  numbers = range_with_len 0 n

  abbrev below : Range ℕ
  below = record { start = 0; end = n }

  yields : YieldsList nat_range_steps (λ x. x) below numbers
  yields = YieldsList-from_range 0 n n refl (omega arith)

  at : (k : ℕ) → k < n → get_or numbers k 0 ≡ k
  at k l = get_or-range_with_len 0 n k 0 l ∙ omega arith

  lowest-numbers : (keeps : ℕ → Bool) → lowest (length numbers) (λ k. keeps (get_or numbers k 0)) ≡ lowest n keeps
  lowest-numbers keeps =
      ap (λ m. lowest m (λ k. keeps (get_or numbers k 0))) (length-range_with_len 0 n)
      ∙ lowest-cong n (λ k. keeps (get_or numbers k 0)) keeps (λ k l. ap keeps (at k l))

  some-numbers : (has : ℕ → Bool) → some? (length numbers) (λ k. has (get_or numbers k 0)) ≡ some? n has
  some-numbers has =
      ap (λ m. some? m (λ k. has (get_or numbers k 0))) (length-range_with_len 0 n)
      ∙ some_cong n (λ k. has (get_or numbers k 0)) has (λ k l. ap has (at k l))

  -- The lowest number below n that does not keep the test, as `find` tells of it.
  module _ (keeps : ℕ → Bool) where
    abbrev breaks : ℕ → Bool
    breaks k = not (keeps k)

    abbrev i : ℕ
    i = position_or_len breaks numbers

    lowest-find : find breaks numbers ≡ lowest n keeps
    lowest-find = find_at breaks numbers ∙ go (ltb i (length numbers)) refl ∙ lowest-position keeps numbers 0 ∙ lowest-numbers keeps
      where
        go : (b : Bool) → ltb i (length numbers) ≡ b → slice_get numbers i ≡ cond (ltb i (length numbers)) (Some i) None
        go true e =
            let l : i < length numbers = ltb-true i (length numbers) e in
            slice_get-get_or numbers i 0 l ∙ ap Some (at i (omega (arith, length-range_with_len 0 n))) ∙ ap (λ b. cond b (Some i) None) (sym e)
        go false e = slice_get_past numbers i (ltb-false i (length numbers) e) ∙ ap (λ b. cond b (Some i) None) (sym e)

    pub lowest_number : {F : Type 0} {g : Mut F (Bor ℕ × Unit {0}) Bool} (u : Range ℕ) (f : F) (r : Option ℕ) →
        (xs : List ℕ) × (j : F) × YieldsThen nat_range_steps below xs r u × FoldsTo (λ p x q. CalledAt g p x false q) f xs j × MatchOption r ⊤ (λ x. (h : F) × CalledAt g j x true h) →
        ((x : ℕ) (b : Bool) (q : F) → CalledAt g f x b q → (q ≡ f) × (b ≡ not (keeps x))) → r ≡ lowest n keeps
    lowest_number u f r ran answers = sym (option_map_id r) ∙ find_from_yields_List breaks u f r ran yields answers ∙ lowest-find

some-first : (n : ℕ) (f : ℕ → Bool) → some? (suc n) f ≡ f 0 || some? n (λ k. f (suc k))
some-first zero f = sym (or-false (f 0))
some-first (suc n) f = ap (λ b. b || f (suc n)) (some-first n f) ∙ or_assoc (f 0) (some? n (λ k. f (suc k))) (f (suc n))

module _ {X : Type 0} (has : X → Bool) where
  some-any : (d : X) (xs : List X) → list_any has xs ≡ some? (length xs) (λ k. has (get_or xs k d))
  some-any d [] = refl
  some-any d (x ∷ xs) = ap (λ b. has x || b) (some-any d xs) ∙ sym (some-first (length xs) (λ k. has (get_or (x ∷ xs) k d)))

  not-any : (xs : List X) → list_all has xs ≡ not (list_any (λ x. not (has x)) xs)
  not-any [] = refl
  not-any (x ∷ xs) = go (has x) (not-any xs)
    where
      go : (b : Bool) → list_all has xs ≡ not (list_any (λ x. not (has x)) xs) → b && list_all has xs ≡ not (not b || list_any (λ x. not (has x)) xs)
      go true e = e
      go false e = refl

-- What `any` and `all` answer over a list of items, and over the numbers below n.
module _ {S A F : Type 0} {steps : S → Option A → S → Type 0} {g : Mut F (A × Unit {0}) Bool} {s : S} where
  module _ {B : Type 0} {v : A → B} {all : List B} where
    pub some_found : (has : B → Bool) (d : B) (u : S) (f : F) (r : Bool) →
        (xs : List A) × (o : Option A) × (j : F) × YieldsThen steps s xs o u × FoldsTo (λ p x q. Called g p (x, tt) false q) f xs j
        × MatchOption o (r ≡ false) (λ x. (r ≡ true) × ((h : F) × Called g j (x, tt) true h)) →
        YieldsList steps v s all → ((x : A) (b : Bool) (q : F) → Called g f (x, tt) b q → (q ≡ f) × (b ≡ has (v x))) →
        r ≡ some? (length all) (λ k. has (get_or all k d))
    some_found has d u f r ran yields answers = any_from_yields_List has u f r ran yields answers ∙ some-any has d all

    pub every_found : (has : B → Bool) (d : B) (u : S) (f : F) (r : Bool) →
        (xs : List A) × (o : Option A) × (j : F) × YieldsThen steps s xs o u × FoldsTo (λ p x q. Called g p (x, tt) true q) f xs j
        × MatchOption o (r ≡ true) (λ x. (r ≡ false) × ((h : F) × Called g j (x, tt) false h)) →
        YieldsList steps v s all → ((x : A) (b : Bool) (q : F) → Called g f (x, tt) b q → (q ≡ f) × (b ≡ has (v x))) →
        r ≡ every (length all) (λ k. has (get_or all k d))
    every_found has d u f r ran yields answers =
        all_from_yields_List has u f r ran yields answers ∙ not-any has all ∙ ap not (some-any (λ x. not (has x)) d all)

module _ {F : Type 0} {g : Mut F (ℕ × Unit {0}) Bool} (n : ℕ) (has : ℕ → Bool) (u : Range ℕ) (f : F) (r : Bool) where
  pub some_number :
      (xs : List ℕ) × (o : Option ℕ) × (j : F) × YieldsThen nat_range_steps (below n) xs o u × FoldsTo (λ p x q. Called g p (x, tt) false q) f xs j
      × MatchOption o (r ≡ false) (λ x. (r ≡ true) × ((h : F) × Called g j (x, tt) true h)) →
      ((x : ℕ) (b : Bool) (q : F) → Called g f (x, tt) b q → (q ≡ f) × (b ≡ has x)) → r ≡ some? n has
  some_number ran answers = some_found has 0 u f r ran (yields n) answers ∙ some-numbers n has

  pub every_number :
      (xs : List ℕ) × (o : Option ℕ) × (j : F) × YieldsThen nat_range_steps (below n) xs o u × FoldsTo (λ p x q. Called g p (x, tt) true q) f xs j
      × MatchOption o (r ≡ true) (λ x. (r ≡ false) × ((h : F) × Called g j (x, tt) false h)) →
      ((x : ℕ) (b : Bool) (q : F) → Called g f (x, tt) b q → (q ≡ f) × (b ≡ has x)) → r ≡ every n has
  every_number ran answers = every_found has 0 u f r ran (yields n) answers ∙ ap not (some-numbers n (λ k. not (has k)))
