-- A set of vertices over which two subgraphs are counted, as functions: near vertices are those below rows, and every edge leads from a near vertex, its
-- first end, to a far one, its second end.
use Rattle.std.specs.Prelude.{ℕ, ◌+◌, ◌*◌, ◌≤◌, ◌<◌, ◌≡◌, Bool, true, false}
use Rattle.integers.specs.Sum.{sum, is}

-- The ends of m edges between rows near vertices and the far ones up to n.
pub record NearFar (rows n m : ℕ) (first second : ℕ → ℕ) : Type 0 where
  pub rows_in : rows ≤ n
  pub near : (e : ℕ) → e < m → first e < rows
  pub far : (e : ℕ) → e < m → rows ≤ second e
  pub inside : (e : ℕ) → e < m → second e < n

-- The degree of vertex v in the marks z.
abbrev pub degree_by : ℕ → (ℕ → ℕ) → (ℕ → ℕ) → (ℕ → ℕ) → ℕ → ℕ
degree_by m first second z v = sum m (λ e. z e * (is (first e) v + is (second e) v))

-- The set S shows that marks a have as many edges from it as marks b: of the edges that leave S by their far end a has no fewer than b, of those that leave
-- by their near end no more; yet no near vertex of S has more edges in a, and no far one fewer.
pub record Cut (rows n m : ℕ) (first second : ℕ → ℕ) (S : ℕ → Bool) (a b : ℕ → ℕ) : Type 0 where
  pub outward : (e : ℕ) → e < m → S (first e) ≡ true → S (second e) ≡ false → b e ≤ a e
  pub inward : (e : ℕ) → e < m → S (first e) ≡ false → S (second e) ≡ true → a e ≤ b e
  pub near : (v : ℕ) → v < rows → S v ≡ true → degree_by m first second a v ≤ degree_by m first second b v
  pub far : (v : ℕ) → rows ≤ v → v < n → S v ≡ true → degree_by m first second b v ≤ degree_by m first second a v

-- The set S is closed under the edges of the marks x: one that is not chosen leads from its near end to its far end, and one that is chosen back.
pub record Closed (m : ℕ) (first second : ℕ → ℕ) (x : ℕ → ℕ) (S : ℕ → Bool) : Type 0 where
  pub out : (e : ℕ) → e < m → x e ≡ 0 → S (first e) ≡ true → S (second e) ≡ true
  pub back : (e : ℕ) → e < m → x e ≡ 1 → S (second e) ≡ true → S (first e) ≡ true

-- Marks y are a choice: each is 0 or 1, and each degree is from least to most.
pub record Choice (n m : ℕ) (first second : ℕ → ℕ) (least most y : ℕ → ℕ) : Type 0 where
  pub marks : (e : ℕ) → e < m → y e ≤ 1
  pub floor : (v : ℕ) → v < n → least v ≤ degree_by m first second y v
  pub within : (v : ℕ) → v < n → degree_by m first second y v ≤ most v

-- No way leads out of S by a degree: of its vertices no near one may lose an edge, and no far one may gain one.
pub record Shut (rows n m : ℕ) (first second : ℕ → ℕ) (least most x : ℕ → ℕ) (S : ℕ → Bool) : Type 0 where
  pub near : (v : ℕ) → v < rows → S v ≡ true → degree_by m first second x v ≤ least v
  pub far : (v : ℕ) → rows ≤ v → v < n → S v ≡ true → most v ≤ degree_by m first second x v
