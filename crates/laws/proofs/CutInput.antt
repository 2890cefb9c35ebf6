-- The listing program reads at most one byte more than a file may have: that byte is enough to tell "file empty or over its limit".
use borrow.Author.Tests.{le-ltb, lt-ltb}
use mathlib.Core.List.{List}
use mathlib.Core.Path.{◌∙◌, ◌≡◌, ap, refl, sym}
use lib.ListN.{length, length-replicate, replicate, take}
use lib.Seq.{length-take-le, take_all}
use native.Mathlib.Decide.{dec_le}
use native.Mathlib.Omega.{arith}
use Prim.Native.Nat.{◌+◌, ◌<◌, ◌≤◌, ℕ}
use Rattle.theory.proofs.Lists.{or-true}
use Rattle.limits.specs.Limits.{card_memory_bytes, file_bytes}
use Rattle.rules.specs.Bytes.{is_empty}
use Rattle.rules.specs.Listing.{listing, listing_of}
use Rattle.rules.specs.Run.{checked, refusal}

over-limit : (file memory : List ℕ) → card_memory_bytes ≤ length memory → file_bytes < length file → checked file memory ≡ refusal 2 0
over-limit file memory room over = rw (le-ltb (length memory) card_memory_bytes room, lt-ltb file_bytes (length file) over, or-true (is_empty file)) refl

over-listed : (file : List ℕ) → file_bytes < length file → listing_of file ≡ listing (refusal 2 0)
over-listed file over =
    ap listing (over-limit file (replicate card_memory_bytes 0) (rw (length-replicate {A = ℕ} card_memory_bytes 0) (omega arith)) over)

-- Cutting an input after as many bytes as the program has room for changes no listing.
pub cut-input : (input : List ℕ) → listing_of (take (file_bytes + 1) input) ≡ listing_of input
cut-input input = go (dec_le (length input) (file_bytes + 1))
  where
    go : Dec (length input ≤ file_bytes + 1) → listing_of (take (file_bytes + 1) input) ≡ listing_of input
    go (yes fits) = ap listing_of (take_all (file_bytes + 1) input fits)
    go (no over) =
        let cut : length (take (file_bytes + 1) input) ≡ file_bytes + 1 = length-take-le (file_bytes + 1) input (omega arith) in
        over-listed (take (file_bytes + 1) input) (omega arith) ∙ sym (over-listed input (omega arith))
