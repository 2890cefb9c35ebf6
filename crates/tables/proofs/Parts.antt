-- Each table read where it stands.
use mathlib.Core.Bool.{}
use mathlib.Core.List.{List}
use mathlib.Core.Path.{◌∙◌, ◌≡◌, ap, ap₂, sym}
use Prim.Native.Nat.{ℕ, ◌+◌, ◌*◌, ◌<◌, ◌≤◌}
use native.Mathlib.Omega.{arith}
use lib.ListN.{drop, get_or, length, length-drop, length-take}
use lib.Seq.{get_or-drop, get_or-take}
use Rattle.tokens.specs.Token.{number_at}
use Rattle.context.specs.Entries.{word_count}
use Rattle.tables.specs.Brought.{next_bytes}
use Rattle.tables.specs.Names.{name_bytes}
use Rattle.tables.specs.Tables.{nexts_from, region, table_bytes, tables_in}

read-in : (s : List ℕ) (a n i : ℕ) → i < n → get_or s (a + i) 0 ≡ get_or (region s a n) i 0
unfolding region
read-in s a n i h = sym (get_or-take n (drop a s) i 0 h ∙ get_or-drop a s i 0)

module _ (t : List ℕ) where
  place_in : (i : ℕ) → i < name_bytes → get_or t i 0 ≡ get_or (tables_in t).places i 0
  unfolding tables_in
  place_in i h = let e : i ≡ 0 + i = omega arith in ap (λ (k : ℕ). get_or t k 0) e ∙ read-in t 0 name_bytes i h

  pub place-number : (n : ℕ) → n < word_count → number_at t (2 * n) ≡ number_at (tables_in t).places (2 * n)
  place-number n h = ap₂ (λ (y z : ℕ). y * 256 + z) (place_in (2 * n) (omega arith)) (place_in (2 * n + 1) (omega arith))

  pub next-in : (i : ℕ) → i < next_bytes → get_or t (nexts_from + i) 0 ≡ get_or (tables_in t).nexts i 0
  unfolding tables_in
  next-in i h = read-in t nexts_from next_bytes i h

  pub places-length : table_bytes ≤ length t → name_bytes ≤ length (tables_in t).places
  unfolding tables_in region
  places-length h = rw (length-take, length-drop) (omega arith)

  pub nexts-length : table_bytes ≤ length t → next_bytes ≤ length (tables_in t).nexts
  unfolding tables_in region
  nexts-length h = rw (length-take, length-drop) (omega arith)
