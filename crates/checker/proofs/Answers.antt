-- The reply and the memory are the rules': of a check, and of whatever else is asked of a file.
use borrow.Author.Tests.{le-ltb, ltb-false, ne_eqb}
use mathlib.Core.Bool.{Bool, cond, false, true, ◌||◌}
use mathlib.Core.List.{List, [], ◌∷◌}
use mathlib.Core.Path.{◌∙◌, ◌≡◌, ap, ap₂, refl, subst, subst⁻¹, sym}
use Prim.Native.Nat.{ℕ, ◌≤◌, ◌<◌}
use native.Mathlib.Omega.{arith}
use lib.Dec.{ltb}
use lib.ListN.{length, replicate}
use Rattle.limits.specs.Limits.{card_memory_bytes, file_bytes, max_definitions}
use Rattle.theory.proofs.Lists.{or-false}
use Rattle.rules.specs.Bytes.{is_empty}
use Rattle.rules.specs.Run.{Answer, Outcome, after_check, and_then, cards_from, file_check, checked, judge_file, memory_after, overwrite, refusal, result}
use Rattle.rules.specs.State.{State}
use Rattle.laws.proofs.FileRefusals.{short-memory}
use Rattle.store.specs.declared.Store.{Store}
use Rattle.store.specs.declared.Facts.{Facts}
use Rattle.context.specs.declared.Counts.{Counts}
use Rattle.resolve.proofs.Numbers.{declarations_of}
use Rattle.cards.specs.Cards.{cards_of}
use Rattle.checker.specs.Reply.{answer, answer_of}
use Rattle.checker.specs.Settles.{Concludes, Few, Leaves, Reaches, Settles, wrong_size}
use Rattle.refusals.specs.declared.Refusal.{Refusal}
use Rattle.refusals.specs.Outcomes.{refused}
use Rattle.std.specs.Prelude.{Result, Ok, Err}
use Rattle.cards.proofs.Shown.{cards-shown}

judged-fields : (file memory : List ℕ) → card_memory_bytes ≤ length memory → is_empty file ≡ false → length file ≤ file_bytes → checked file memory ≡ judge_file file
judged-fields file memory room some fits =
    ap (λ (b : Bool). cond b (refusal 1 0) (cond (is_empty file || ltb file_bytes (length file)) (refusal 2 0) (judge_file file))) (le-ltb (length memory) card_memory_bytes room)
    ∙ ap₂ (λ (a b : Bool). cond (a || b) (refusal 2 0) (judge_file file)) some (le-ltb file_bytes (length file) fits)

cleared : (c p : ℕ) (memory : List ℕ) → (c ≡ 1 → ⊥) → memory_after (refusal c p) memory ≡ overwrite (replicate card_memory_bytes 0) memory
cleared c p memory h = ap (λ (b : Bool). cond b memory (overwrite (replicate card_memory_bytes 0) memory)) (ne_eqb c 1 h)

cards-reached : (file : List ℕ) (v : Store) (c : Counts) (refs words : List ℕ) (x : Reaches file v c refs words)
    → cards_of v.facts words c.definitions ≡ cards_from x.state 0 x.state.definitions
cards-reached file v c refs words x =
    cards-shown v c x.state words (declarations_of x.fields) x.stands.holds x.stands.within x.stands.forms

-- the lent memory of an accepted file
pub memory-filled : (file memory after : List ℕ) (v : Store) (c : Counts) (refs words : List ℕ) (x : Reaches file v c refs words)
    → after ≡ overwrite (cards_of v.facts words c.definitions) memory → after ≡ memory_after (result x.state) memory
memory-filled file memory after v c refs words x y =
    y ∙ ap (λ (bs : List ℕ). overwrite bs memory) (cards-reached file v c refs words x)

-- Whatever is asked of a file: what it leaves, by the outcome of the check.
module _ {A : Type 0} (query : State → Outcome A) (file memory : List ℕ) where
  abbrev left : Outcome State → Answer A
  left o = record { reply = and_then o query; memory = memory_after o memory }

  pub reached-answer : (after : List ℕ) (v : Store) (c : Counts) (refs words : List ℕ) (o : Outcome A) → card_memory_bytes ≤ length memory → is_empty file ≡ false → length file ≤ file_bytes
      → (x : Reaches file v c refs words) → after ≡ overwrite (cards_of v.facts words c.definitions) memory → o ≡ query x.state
      → answer o after ≡ after_check file memory query
  reached-answer after v c refs words o room some fits x y e =
      let q : checked file memory ≡ result x.state = judged-fields file memory room some fits ∙ x.accepted in
      ap₂ answer e (memory-filled file memory after v c refs words x y) ∙ ap left (sym q)

  pub refused-answer : (after : List ℕ) (c p : ℕ) → card_memory_bytes ≤ length memory → is_empty file ≡ false → length file ≤ file_bytes → judge_file file ≡ refusal c p
      → after ≡ overwrite (replicate card_memory_bytes 0) memory → answer (refusal c p) after ≡ after_check file memory query
  refused-answer after c p room some fits x y =
      let e : checked file memory ≡ refusal c p = judged-fields file memory room some fits ∙ x in
      let h : c ≡ 1 → ⊥ = λ (q : c ≡ 1). let (short, z) = (short-memory file memory p).0 (e ∙ ap (λ (k : ℕ). refusal k p) q) in omega arith in
      ap (answer (refusal c p)) (y ∙ sym (cleared c p memory h)) ∙ ap left (sym e)

  -- the two refusals before the fields
  pub short-answer : length memory < card_memory_bytes → answer (refusal 1 0) memory ≡ after_check file memory query
  short-answer l = ap left (sym ((short-memory file memory 0).1 (l, refl)))

  pub wrong-size-answer : (after : List ℕ) → card_memory_bytes ≤ length memory → wrong_size file ≡ true → after ≡ overwrite (replicate card_memory_bytes 0) memory
      → answer (refusal 2 0) after ≡ after_check file memory query
  wrong-size-answer after room wrong e =
      let q : checked file memory ≡ refusal 2 0 =
      ap₂ (λ (a b : Bool). cond a (refusal 1 0) (cond b (refusal 2 0) (judge_file file))) (le-ltb (length memory) card_memory_bytes room) wrong in
      ap (answer (refusal 2 0)) e ∙ ap left (sym q)

-- The check asks for the number of definitions.
abbrev count_reply : State → Outcome ℕ
count_reply s = result (length s.definitions)

module _ (file memory after : List ℕ) (v : Store) (refs words : List ℕ) (r : Result Counts Refusal) (room : card_memory_bytes ≤ length memory)
    (some : is_empty file ≡ false) (fits : length file ≤ file_bytes) (x : Concludes file v refs words r memory after) where
  pub check-counted : (c : Counts) → r ≡ Ok c → answer (result c.definitions) after ≡ file_check file memory
  check-counted c e =
      let reached : Reaches file v c refs words = subst (Settles file v refs words) e x.settles in
      reached-answer count_reply file memory after v c refs words (result c.definitions) room some fits reached
      (subst (λ (y : Result Counts Refusal). Leaves v.facts words y memory after) e x.leaves) (ap result reached.stands.holds.definitions)

  pub check-refused : (y : Refusal) → r ≡ Err y → answer (refusal y.cause y.place) after ≡ file_check file memory
  check-refused y e =
      refused-answer count_reply file memory after y.cause y.place room some fits (subst (Settles file v refs words) e x.settles)
      (subst (λ (y : Result Counts Refusal). Leaves v.facts words y memory after) e x.leaves)

pub check-short : (file memory : List ℕ) → length memory < card_memory_bytes → answer_of (refused 1 0) memory ≡ file_check file memory
check-short file memory l = short-answer count_reply file memory l

pub check-wrong-size : (file memory after : List ℕ) → card_memory_bytes ≤ length memory → wrong_size file ≡ true → after ≡ overwrite (replicate card_memory_bytes 0) memory
    → answer_of (refused 2 0) after ≡ file_check file memory
check-wrong-size file memory after room wrong e = wrong-size-answer count_reply file memory after room wrong e

-- sizes as the code reads them
pub empty-wrong : (file : List ℕ) → length file ≡ 0 → true ≡ wrong_size file
empty-wrong [] e = refl
empty-wrong (b ∷ file) e = absurd (omega arith)

pub some_size : (file : List ℕ) → (length file ≡ 0 → ⊥) → (b : Bool) → b ≡ ltb file_bytes (length file) → b ≡ wrong_size file
some_size [] h b e = absurd (h refl)
some_size (x ∷ file) h b e = e

pub wrong-bytes : (file : List ℕ) (b : Bool) → b ≡ wrong_size file → b ≡ true → wrong_size file ≡ true
wrong-bytes file b p q = sym p ∙ q

pub some_bytes : (file : List ℕ) (b : Bool) → b ≡ wrong_size file → b ≡ false → is_empty file ≡ false
some_bytes file b p q = (or-false (is_empty file) (ltb file_bytes (length file)) (sym p ∙ q)).0

pub few_bytes : (file : List ℕ) (b : Bool) → b ≡ wrong_size file → b ≡ false → length file ≤ file_bytes
few_bytes file b p q = ltb-false file_bytes (length file) (or-false (is_empty file) (ltb file_bytes (length file)) (sym p ∙ q)).1

-- by how the file is settled
pub few-in : (r : Result Counts Refusal) (c : Counts) → r ≡ Ok c → Few r → c.definitions ≤ max_definitions
few-in r c e f = subst Few e f

pub filled_in : (facts : List Facts) (words before after : List ℕ) (r : Result Counts Refusal) (c : Counts) → r ≡ Ok c
    → after ≡ overwrite (cards_of facts words c.definitions) before → Leaves facts words r before after
filled_in facts words before after r c e f = subst⁻¹ (λ (y : Result Counts Refusal). Leaves facts words y before after) e f

pub cleared-in : (facts : List Facts) (words before after : List ℕ) (r : Result Counts Refusal) (y : Refusal) → r ≡ Err y
    → after ≡ overwrite (replicate card_memory_bytes 0) before → Leaves facts words r before after
cleared-in facts words before after r y e f = subst⁻¹ (λ (y : Result Counts Refusal). Leaves facts words y before after) e f

pub settled-few : (file : List ℕ) (v : Store) (refs words : List ℕ) (r : Result Counts Refusal) → Settles file v refs words r → Few r
settled-few file v refs words (Ok c) x = x.stands.holds.sized.definitions
settled-few file v refs words (Err y) x = tt
