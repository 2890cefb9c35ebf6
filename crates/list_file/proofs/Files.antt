-- A file's text is the rules' listing of it.
use borrow.Author.Tests.{le-ltb, lt-ltb}
use mathlib.Core.Bool.{Bool, cond, false, true, ◌||◌}
use mathlib.Core.List.{List, [], ◌∷◌}
use mathlib.Core.Path.{◌∙◌, ◌≡◌, ap, ap₂, refl, subst, sym}
use Prim.Native.Nat.{ℕ, ◌≤◌, ◌<◌}
use native.Mathlib.Omega.{arith}
use lib.Dec.{ltb}
use lib.ListN.{length, length-replicate, replicate}
use Rattle.limits.specs.Limits.{card_memory_bytes, file_bytes}
use Rattle.theory.proofs.Lists.{or-true}
use Rattle.rules.specs.Bytes.{is_empty}
use Rattle.rules.specs.Listing.{listing, listing_of}
use Rattle.rules.specs.Run.{checked, judge_file, overwrite, refusal}
use Rattle.store.specs.declared.Store.{Store}
use Rattle.store.specs.declared.Facts.{Facts}
use Rattle.context.specs.declared.Counts.{Counts}
use Rattle.resolve.proofs.Numbers.{declarations_of}
use Rattle.checker.specs.Settles.{Settles}
use Rattle.refusals.specs.declared.Refusal.{Refusal}
use Rattle.std.specs.Prelude.{Result, Ok, Err}
use Rattle.lines.proofs.Listed.{text-listed}
use Rattle.lines.specs.Text.{refusal_text, text_room}
use Rattle.list_file.specs.Replies.{reply_text}

-- the check's three cases, whatever the memory, if it is large enough
fields-checked : (file memory : List ℕ) → card_memory_bytes ≤ length memory → is_empty file ≡ false → length file ≤ file_bytes → checked file memory ≡ judge_file file
fields-checked file memory room some fits =
    ap (λ (b : Bool). cond b (refusal 1 0) (cond (is_empty file || ltb file_bytes (length file)) (refusal 2 0) (judge_file file))) (le-ltb (length memory) card_memory_bytes room)
    ∙ ap₂ (λ (a b : Bool). cond (a || b) (refusal 2 0) (judge_file file)) some (le-ltb file_bytes (length file) fits)

size-checked : (file memory : List ℕ) → card_memory_bytes ≤ length memory → (is_empty file || ltb file_bytes (length file)) ≡ true → checked file memory ≡ refusal 2 0
size-checked file memory room wrong =
    ap₂ (λ (a b : Bool). cond a (refusal 1 0) (cond b (refusal 2 0) (judge_file file))) (le-ltb (length memory) card_memory_bytes room) wrong

enough : card_memory_bytes ≤ length (replicate {A = ℕ} card_memory_bytes 0)
enough = rw (length-replicate {A = ℕ} card_memory_bytes 0) (omega arith)

pub reply-listed : (file : List ℕ) (v : Store) (refs words : List ℕ) (r : Result Counts Refusal) → is_empty file ≡ false → length file ≤ file_bytes
    → Settles file v refs words r → reply_text v.names v.facts words r ≡ listing_of file
reply-listed file v refs words (Ok c) some fits x =
    let s = x.stands in
    text-listed v c x.state words (declarations_of x.fields) s.holds s.within s.forms
    ∙ ap listing (sym (fields-checked file (replicate card_memory_bytes 0) enough some fits ∙ x.accepted))
reply-listed file v refs words (Err r) some fits x = ap listing (sym (fields-checked file (replicate card_memory_bytes 0) enough some fits ∙ x))

-- "file empty or over its limit"
pub empty-listed : (file : List ℕ) → length file ≡ 0 → refusal_text 2 0 ≡ listing_of file
empty-listed [] e = ap listing (sym (size-checked [] (replicate card_memory_bytes 0) enough refl))
empty-listed (b ∷ file) e = absurd (omega arith)

pub long-listed : (file : List ℕ) → file_bytes < length file → refusal_text 2 0 ≡ listing_of file
long-listed file l =
    ap listing
    (sym (size-checked file (replicate card_memory_bytes 0) enough (ap (λ (b : Bool). is_empty file || b) (lt-ltb file_bytes (length file) l) ∙ or-true (is_empty file))))

pub some_bytes : (file : List ℕ) → (length file ≡ 0 → ⊥) → is_empty file ≡ false
some_bytes [] h = absurd (h refl)
some_bytes (b ∷ file) h = refl

-- a text at the front of the memory, by its equation
abbrev pub Front : List ℕ → List ℕ → List ℕ → ℕ → Type 0
Front before after text r = (after ≡ overwrite text before) × (r ≡ length text) × (r ≤ text_room)

pub front-as : (before after a b : List ℕ) (r : ℕ) → Front before after a r → a ≡ b → Front before after b r
front-as before after a b r f e = subst (λ (t : List ℕ). Front before after t r) e f

pub text_in : (names : List ℕ) (facts : List Facts) (words : List ℕ) (r q : Result Counts Refusal) → r ≡ q → reply_text names facts words q ≡ reply_text names facts words r
text_in names facts words r q e = ap (reply_text names facts words) (sym e)
