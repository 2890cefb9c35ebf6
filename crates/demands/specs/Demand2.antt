-- DEMAND 2, as one record; theorem `demand-2` (proofs/Demand2).
--
-- "The program as a whole, lent card memory of the stated size, accepts a file exactly when it obeys the arity, name, instance and level rules, the layout and the
-- limits set out in document 01. Every level card, count and expansion that it hands back is the one those rules give, and it turns a query down only on a cause
-- listed there."
use Rattle.std.specs.Prelude.{Bool, List, map, ◌↔◌, ◌≡◌, get_or, length, ◌*◌, ◌+◌, ◌<◌, ℕ}
use Rattle.demands.specs.Archive.{Enough, alike_tells, body_tells, check_leaves, check_tells, expand_tells, expand_writes, level_tells, state_of}
use Rattle.demands.specs.Replies.{AlikeReplied, BodyReplied, ExpansionReplied, ExpansionWritten, LevelReplied, QueryCards, QueryRefused}
use Rattle.laws.specs.Cards.{card_byte, card_part}
use Rattle.laws.specs.Lawful.{Obeys, adds}
use Rattle.laws.specs.Modules.{Ended, SameFields}
use Rattle.laws.specs.Queries.{AlikeRefused, BodyRefused, ExpansionRefused, LevelRefused}
use Rattle.laws.specs.Refused.{FileRefused}
use Rattle.limits.specs.Limits.{card_bytes}
use Rattle.rules.specs.Instance.{source}
use Rattle.rules.specs.Run.{Outcome, refusal, result}
use Rattle.rules.specs.State.{start}

-- a reply that is a result
abbrev pub Accepted : Outcome ℕ → Type 0
Accepted reply = (k : ℕ) × (reply ≡ result k)

-- DEMAND 2
pub record Demand2 : Type 0 where
  -- "lent card memory of the stated size, accepts a file exactly when it obeys";
  pub accepts : (file lent : List ℕ) → Enough lent → Accepted (check_tells file lent) ↔ Obeys file
  -- and refuses with c at p exactly when c is the cause judged first of the first field at fault, and p its place (or memory or file have not their size);
  pub refuses : (file lent : List ℕ) (c p : ℕ) → (check_tells file lent ≡ refusal c p) ↔ FileRefused file lent c p
  -- what is read off the fields of a file that obeys: nothing at first, then each adds to it in its turn.
  pub what_fields_add : (file : List ℕ) (o : Obeys file) → state_of file ≡ adds start o.fields
  -- "Every level card": each byte of each card, after whatever call;
  pub every_card_byte : (file lent : List ℕ) (k : ℕ) → check_tells file lent ≡ result k → (g e : ℕ) → g < k → e < card_bytes
      → get_or (check_leaves file lent) (card_bytes * g + e) 0 ≡ card_byte (state_of file) g e
  pub query_cards : (file lent : List ℕ) → QueryCards file lent
  -- "count": "A check replies with the number of definitions";
  pub counted : (file lent : List ℕ) (k : ℕ) → check_tells file lent ≡ result k → k ≡ length (state_of file).definitions
  -- each query's reply, exactly;
  pub level_replied : (file lent : List ℕ) (m : ℕ) (levels bytes : List ℕ) (l : ℕ)
      → (level_tells file lent m levels bytes ≡ result l) ↔ LevelReplied file lent m levels bytes l
  pub alike_replied : (file lent : List ℕ) (g h : ℕ) (b : Bool) → (alike_tells file lent g h ≡ result b) ↔ AlikeReplied file lent g h b
  pub body_replied : (file lent : List ℕ) (g : ℕ) (part : ℕ × ℕ) → (body_tells file lent g ≡ result part) ↔ BodyReplied file lent g part
  pub expansion_replied : (file lent : List ℕ) (m n : ℕ) (bytes output : List ℕ) (l : ℕ)
      → (expand_tells file lent m n bytes output ≡ result l) ↔ ExpansionReplied file lent m n bytes output l
  -- with each byte of an expansion;
  pub expansion_written : (file lent : List ℕ) (m n : ℕ) (bytes output : List ℕ) (l : ℕ) → expand_tells file lent m n bytes output ≡ result l
      → ExpansionWritten file m n bytes output (expand_writes file lent m n bytes output) l
  -- "it turns a query down only on a cause listed there": and on each of them, in their order.
  pub level_refused : (file lent : List ℕ) (m : ℕ) (levels bytes : List ℕ) (c p : ℕ)
      → (level_tells file lent m levels bytes ≡ refusal c p) ↔ QueryRefused file lent (LevelRefused m levels bytes) c p
  pub alike_refused : (file lent : List ℕ) (g h c p : ℕ) → (alike_tells file lent g h ≡ refusal c p) ↔ QueryRefused file lent (AlikeRefused g h) c p
  pub body_refused : (file lent : List ℕ) (g c p : ℕ) → (body_tells file lent g ≡ refusal c p) ↔ QueryRefused file lent (BodyRefused g) c p
  pub expansion_refused : (file lent : List ℕ) (m n : ℕ) (bytes output : List ℕ) (c p : ℕ)
      → (expand_tells file lent m n bytes output ≡ refusal c p) ↔ QueryRefused file lent (ExpansionRefused m n bytes (length output)) c p
  -- "Two accepted files with equal fields for a module and all it reaches give its definitions equal cards."
  pub equal_cards : (file₁ lent₁ file₂ lent₂ : List ℕ) → Enough lent₁ → Enough lent₂ → (o₁ : Obeys file₁) (o₂ : Obeys file₂)
      → (m : ℕ) → Ended (state_of file₁) m → SameFields o₁.fields o₂.fields m
      → map (card_part (check_leaves file₁ lent₁)) (source (state_of file₁) m).definitions ≡ map (card_part (check_leaves file₂ lent₂)) (source (state_of file₂) m).definitions
