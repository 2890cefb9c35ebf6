-- The sizes of `limits` (specs/Sizes) are those of the store's arrays: what `Limits::empty_context` gives is the empty store, array after array.
use mathlib.Core.List.{List, ◌++◌}
use mathlib.Core.Path.{◌∙◌, ◌≡◌, ap, refl}
use Prim.Native.Nat.{ℕ, zero, suc, ◌+◌, ◌*◌}
use lib.ListN.{replicate, replicate-append-replicate}
use native.Mathlib.Omega.{arith}
use Rattle.std.specs.List.{flat_map}
use Rattle.limits.specs.Limits.{max_declarations}
use Rattle.limits.specs.Sizes.{code_count, column_count, contexts_length, facts_length, heads_length, orders_length, store_length}
use Rattle.store.specs.Store.{columns, empty, no_facts, numbers}

abbrev zeros : ℕ → List ℕ
zeros n = replicate n 0

-- of n codes of which nothing is kept: so many zeros
no-columns : (n : ℕ) → flat_map columns (replicate n no_facts) ≡ zeros (column_count * n)
no-columns zero = refl
no-columns (suc n) = ap (λ (l : List ℕ). columns no_facts ++ l) (no-columns n) ∙ replicate-append-replicate column_count (column_count * n) 0 ∙ ap zeros (omega arith)

after : (m k : ℕ) (l : List ℕ) → l ≡ zeros m → l ++ zeros k ≡ zeros (m + k)
after m k l e = ap (λ (x : List ℕ). x ++ zeros k) e ∙ replicate-append-replicate m k 0

six : (a b c d e f : ℕ) (l : List ℕ) → l ≡ zeros b → zeros a ++ l ++ zeros c ++ zeros d ++ zeros e ++ zeros f ≡ zeros (a + b + c + d + e + f)
six a b c d e f l q =
    after (a + b + c + d + e) f (zeros a ++ l ++ zeros c ++ zeros d ++ zeros e)
    (after (a + b + c + d) e (zeros a ++ l ++ zeros c ++ zeros d)
    (after (a + b + c) d (zeros a ++ l ++ zeros c)
    (after (a + b) c (zeros a ++ l) (ap (λ (x : List ℕ). zeros a ++ x) q ∙ replicate-append-replicate a b 0))))

pub nothing-held : numbers empty ≡ replicate store_length 0
nothing-held =
    six code_count facts_length contexts_length orders_length heads_length max_declarations (flat_map columns (replicate code_count no_facts)) (no-columns code_count)
