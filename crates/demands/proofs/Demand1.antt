-- DEMAND 1: `demand-1`, the last theorem.
use mathlib.Core.Bool.{cond}
use mathlib.Core.List.{List, [], ◌∷◌}
use mathlib.Core.Logic.{inl, inr}
use mathlib.Core.Path.{◌∙◌, ◌≡◌, ap, refl, subst, sym}
use lib.Dec.{ltb}
use lib.ListN.{get_or, length}
use Prim.Native.Nat.{◌%◌, ◌*◌, ◌/◌, ℕ}
use Rattle.demands.proofs.Accepted.{accepted-obeys, accepted-told, check-accepted, state-of}
use Rattle.demands.proofs.Demand2.{demand-2}
use Rattle.demands.proofs.Told.{check-told, expand-told}
use Rattle.demands.specs.Archive.{alike_tells, body_tells, check_leaves, check_tells, expand_tells, expand_writes, level_tells, state_of}
use Rattle.demands.specs.Demand1.{Demand1, MemoryLeft, OneReply, OutputLeft, byte_left, full_result, refused_by_file, refused_by_query}
use Rattle.demands.specs.Replies.{AlikeReplied, BodyReplied, CheckReplied, ExpansionReplied, LevelReplied, QueryRefused, by_file, by_query}
use Rattle.laws.proofs.Causes.{one_of}
use Rattle.laws.proofs.CheckMemory.{byte_after, check_memory}
use Rattle.laws.proofs.FileRefusals.{not-refusal}
use Rattle.laws.proofs.Outputs.{output-length, output-unchanged}
use Rattle.laws.proofs.QueryNumbers.{expression-numbers, file-numbers}
use Rattle.laws.specs.Cards.{card_byte}
use Rattle.laws.specs.Queries.{AlikeRefused, BodyRefused, ExpansionRefused, LevelRefused, TermRefused, at_fault, expression_numbers, no-module}
use Rattle.laws.specs.Refused.{FileRefused, OneOf}
use Rattle.limits.specs.Limits.{card_bytes}
use Rattle.rules.specs.Run.{Outcome, and_then, checked, refusal, result}
use Rattle.rules.specs.State.{State}
use Rattle.theory.specs.Lists.{All}

-- NUMBERS
-- a number of a short list is one of a longer
longer-list : (ns ms : List ℕ) → All (OneOf ms) ns → (c : ℕ) → OneOf ns c → OneOf ms c
longer-list ns ms a c t = one_of (OneOf ms) ns c a t

module _ (s : State) (fields m n : ℕ) (levels bytes : List ℕ) where
  term-number : (numbers : List ℕ) → All (OneOf numbers) expression_numbers → OneOf numbers 17 → (c p : ℕ) → TermRefused s fields m n levels bytes c p → OneOf numbers c
  term-number numbers a t c p (no-module q u v) = subst (OneOf numbers) (sym u) t
  term-number numbers a t c p (at_fault M q r v) = longer-list expression_numbers numbers a c (expression-numbers s M n levels bytes c r)

expansion-number : (m n : ℕ) (bytes : List ℕ) (room : ℕ) (s : State) (fields c p : ℕ) → ExpansionRefused m n bytes room s fields c p → OneOf (3 ∷ 5 ∷ 9 ∷ 10 ∷ 17 ∷ 18 ∷ []) c
expansion-number m n bytes room s fields c p (inl r) = term-number s fields m n [] bytes (3 ∷ 5 ∷ 9 ∷ 10 ∷ 17 ∷ 18 ∷ []) (tt, (tt, (tt, (tt, tt)))) tt c p r
expansion-number m n bytes room s fields c p (inr l) = subst (OneOf (3 ∷ 5 ∷ 9 ∷ 10 ∷ 17 ∷ 18 ∷ [])) (sym l.number) tt

-- ONE REPLY, of a query that demand 2 says all of
module _ {A : Type 0} (file lent : List ℕ) (Full : A → Type 0) (numbers : List ℕ) (Own : State → ℕ → ℕ → ℕ → Type 0)
    (number : (s : State) (fields c p : ℕ) → Own s fields c p → OneOf numbers c) (reply : Outcome A)
    (first : (c p : ℕ) → FileRefused file lent c p → reply ≡ refusal c p) (full : (a : A) → reply ≡ result a → Full a)
    (refused : (c p : ℕ) → reply ≡ refusal c p → QueryRefused file lent Own c p) where
  one-reply : OneReply file lent Full numbers Own reply
  one-reply = by-check (check_tells file lent) refl
    where
      of-query : (k : ℕ) → check_tells file lent ≡ result k → (c p : ℕ) → reply ≡ refusal c p → QueryRefused file lent Own c p → OneReply file lent Full numbers Own reply
      of-query k e c p q (by_file r) = not-refusal k c p (sym e ∙ (demand-2.refuses file lent c p).1 r)
      of-query k e c p q (by_query room o own) = refused_by_query k e c p q (number (state_of file) (length o.fields) c p own) room o own

      by-reply : (k : ℕ) → check_tells file lent ≡ result k → (o : Outcome A) → reply ≡ o → OneReply file lent Full numbers Own reply
      by-reply k e (result a) q = full_result k e a q (full a q)
      by-reply k e (refusal c p) q = of-query k e c p q (refused c p q)

      by-check : (o : Outcome ℕ) → check_tells file lent ≡ o → OneReply file lent Full numbers Own reply
      by-check (result k) e = by-reply k e reply refl
      by-check (refusal c p) e =
          let r = (demand-2.refuses file lent c p).0 e in
          refused_by_file c p e (first c p r) (file-numbers file lent c p r) r

checked-then : (file lent : List ℕ) (k : ℕ) → check_tells file lent ≡ result k → CheckReplied file lent k
checked-then file lent k e =
    let (room, obeys) = accepted-obeys file lent (state_of file) (check-accepted file lent k e).0 in
    record { room = room; obeys = obeys; counted = demand-2.counted file lent k e }

-- MEMORY: byte by byte, by what a check tells
left-by-check : (file lent : List ℕ) → MemoryLeft file lent (check_leaves file lent)
left-by-check file lent =
    let r = check_memory file lent in
    record { same_length = r.same_length; each_byte = λ i. r.byte-is i ∙ told (checked file lent) refl i }
  where
    told : (o : Outcome State) → checked file lent ≡ o → (i : ℕ) → byte_after o lent i ≡ byte_left file lent (check_tells file lent) i
    told (result s) a i =
        ap (λ (u : State). cond (ltb i (card_bytes * length s.definitions)) (card_byte u (i / card_bytes) (i % card_bytes)) (get_or lent i 0)) (sym (state-of file lent s a))
        ∙ ap (λ (o : Outcome ℕ). byte_left file lent o i) (sym (accepted-told file lent s a))
    told (refusal c p) a i =
        ap (λ (o : Outcome ℕ). byte_left file lent o i)
        (sym (check-told file lent ∙ ap (λ (o : Outcome State). and_then o λ s. result (length s.definitions)) a))

-- OUTPUT
output-after : (file lent : List ℕ) (m n : ℕ) (bytes output : List ℕ)
    → OutputLeft file m n bytes output (expand_writes file lent m n bytes output) (expand_tells file lent m n bytes output)
output-after file lent m n bytes output =
    record {
      same_length = output-length file lent m n bytes output;
      refused = λ c p e. output-unchanged file lent m n bytes output c p (sym (expand-told file lent m n bytes output) ∙ e);
      replied = demand-2.expansion_written file lent m n bytes output;
    }

-- DEMAND 1
pub demand-1 : Demand1
demand-1 =
    record {
      check =
          λ file lent.
          one-reply file lent (CheckReplied file lent) [] (λ s fields c p. ⊥) (λ s fields c p o. absurd o) (check_tells file lent)
          (λ c p. (demand-2.refuses file lent c p).1) (checked-then file lent) (λ c p e. by_file ((demand-2.refuses file lent c p).0 e));
      level =
          λ file lent m levels bytes.
          one-reply file lent (LevelReplied file lent m levels bytes) (3 ∷ 5 ∷ 9 ∷ 10 ∷ 17 ∷ []) (LevelRefused m levels bytes)
          (λ s fields. term-number s fields m (length levels) levels bytes (3 ∷ 5 ∷ 9 ∷ 10 ∷ 17 ∷ []) (tt, (tt, (tt, (tt, tt)))) tt) (level_tells file lent m levels bytes)
          (λ c p r. (demand-2.level_refused file lent m levels bytes c p).1 (by_file r)) (λ l. (demand-2.level_replied file lent m levels bytes l).0)
          (λ c p. (demand-2.level_refused file lent m levels bytes c p).0);
      alike =
          λ file lent g h.
          one-reply file lent (AlikeReplied file lent g h) (17 ∷ []) (AlikeRefused g h) (λ s fields c p r. subst (OneOf (17 ∷ [])) (sym r.1) tt) (alike_tells file lent g h)
          (λ c p r. (demand-2.alike_refused file lent g h c p).1 (by_file r)) (λ b. (demand-2.alike_replied file lent g h b).0) (λ c p. (demand-2.alike_refused file lent g h c p).0);
      body =
          λ file lent g.
          one-reply file lent (BodyReplied file lent g) (17 ∷ []) (BodyRefused g) (λ s fields c p r. subst (OneOf (17 ∷ [])) (sym r.1) tt) (body_tells file lent g)
          (λ c p r. (demand-2.body_refused file lent g c p).1 (by_file r)) (λ part. (demand-2.body_replied file lent g part).0) (λ c p. (demand-2.body_refused file lent g c p).0);
      expansion =
          λ file lent m n bytes output.
          one-reply file lent (ExpansionReplied file lent m n bytes output) (3 ∷ 5 ∷ 9 ∷ 10 ∷ 17 ∷ 18 ∷ []) (ExpansionRefused m n bytes (length output)) (expansion-number m n bytes (length output))
          (expand_tells file lent m n bytes output) (λ c p r. (demand-2.expansion_refused file lent m n bytes output c p).1 (by_file r))
          (λ l. (demand-2.expansion_replied file lent m n bytes output l).0) (λ c p. (demand-2.expansion_refused file lent m n bytes output c p).0);
      check_memory = left-by-check;
      level_memory = λ file lent m levels bytes. left-by-check file lent;
      alike_memory = λ file lent g h. left-by-check file lent;
      body_memory = λ file lent g. left-by-check file lent;
      expansion_memory = λ file lent m n bytes output. left-by-check file lent;
      expansion_output = output-after;
    }
