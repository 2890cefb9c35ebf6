-- DEMAND 3, as one record; theorem `demand-3` (proofs/Demand3): it holds of a file, some card memory and a number k whenever a check of that file, lent that
-- memory, tells k. Throughout it speaks of what the archive hands back (Archive.antt).
--
-- "Whoever first replaces every defined name by its body in full, instances included, however long that grows, and only then works out the level without any card,
-- gets exactly the level and the verdict that our cards give and that any level query answers. This holds in every accepted file, at the end of every module, for
-- every expression within the limits with known names, known indices and right argument counts, and for every level of every parameter, "not level-correct"
-- among them. Every card of such a file, whatever levels its definition's parameters have, gives the level of that definition so replaced."
use Rattle.std.specs.Prelude.{List, ◌↔◌, ◌⊎◌, ◌≡◌, drop, length, take, ◌<◌, ◌≤◌, ℕ}
use Rattle.std.proofs.Math.Option.{some}
use Rattle.demands.specs.AddedBy.{AddedBy}
use Rattle.demands.specs.AnyOrder.{AnyOrder}
use Rattle.demands.specs.Archive.{Enough, check_leaves, check_tells, expand_tells, expand_writes, level_tells, state_of}
use Rattle.demands.specs.LongWay.{InFull}
use Rattle.demands.specs.Replies.{Belongs, Levels, QueryCards, term_of}
use Rattle.laws.specs.Cards.{card_in, name_at_params}
use Rattle.laws.specs.Lawful.{Spells, adds}
use Rattle.laws.specs.Modules.{HasModule, state_body}
use Rattle.limits.specs.Limits.{expansion_bytes}
use Rattle.rules.specs.Expression.{Expression, expression}
use Rattle.rules.specs.Field.{Field}
use Rattle.rules.specs.Query.{quote}
use Rattle.rules.specs.Run.{refusal, result}
use Rattle.rules.specs.State.{Module, expansion_of, module_named, params_of, resolve, start}
use Rattle.theory.specs.Index.{reach}
use Rattle.theory.specs.Level.{verdict}
use Rattle.theory.specs.Term.{Term, WellFormed, by_cards, level, long_way, no_definitions}

-- u is the term of an expression that belongs to demand 3, with every defined name replaced in full (InFull)
abbrev pub Replaced : (file : List ℕ) (m n : ℕ) (bytes : List ℕ) → Belongs file m n bytes → Term → Type 0
Replaced file m n bytes b u = InFull (state_of file) (term_of file m n bytes b) u

-- What an expansion query has done for it that replies l; `after` is the output then, u the expression replaced in full.
pub record Expanded (file : List ℕ) (m n : ℕ) (bytes : List ℕ) (b : Belongs file m n bytes) (output after : List ℕ) (l : ℕ) (u : Term) : Type 0 where
  -- the output's first l bytes are those of u, in the file's own tokens; "output is written [..] only its length"
  pub bytes_true : take l after ≡ expression.write (quote u)
  pub length_true : l ≡ length (expression.write (quote u))
  pub rest_stays : drop l after ≡ drop l output
  -- read back at the end of the module they are u
  pub back : Expression
  pub reads_back : expression.read (take l after) ≡ some back
  pub means : resolve (state_of file) b.place.context back ≡ u

-- THE DEFINITIONS, k of them: each is what a field of the file says, a definition field or an INSTANCE.
pub record Definitions (file : List ℕ) (k : ℕ) : Type 0 where
  pub fields : List Field
  pub laid_out : Spells fields file
  pub reached : state_of file ≡ adds start fields
  pub counted : k ≡ length (state_of file).definitions
  pub each_by_a_field : (g : ℕ) → g < k → AddedBy start fields g
  -- "at the end of every module": each module of the file is found by its name, as it stands at its end; and no other is.
  pub every_module : {m : ℕ} {body : List Field} (h : HasModule fields m body) → module_named (state_of file) m ≡ some (state_body h).current
  pub no_other_module : (m : ℕ) (M : Module) → module_named (state_of file) m ≡ some M → (body : List Field) × HasModule fields m body

-- THE LONG WAY, for every expression that belongs
pub record Replacing (file : List ℕ) : Type 0 where
  -- It can be replaced in full, in one way only,
  pub can_be_replaced : (m n : ℕ) (bytes : List ℕ) (b : Belongs file m n bytes) → (u : Term) × Replaced file m n bytes b u
  pub in_one_way : (m n : ℕ) (bytes : List ℕ) (b : Belongs file m n bytes) (u v : Term) → Replaced file m n bytes b u → Replaced file m n bytes b v → u ≡ v
  -- it is what the rules call the expansion;
  pub is_the_expansion : (m n : ℕ) (bytes : List ℕ) (b : Belongs file m n bytes) (u : Term) → Replaced file m n bytes b u
      → u ≡ expansion_of (state_of file) (term_of file m n bytes b)
  -- names replaced one at a time, anywhere and in any order, each by its body in full, come to the same bytes and at any levels the same level
  -- (`long_way` is the reading without cards);
  pub names_in_any_order : (m n : ℕ) (bytes levels : List ℕ) (b : Belongs file m n bytes) (u v : Term) → Replaced file m n bytes b u
      → AnyOrder (state_of file) (term_of file m n bytes b) v → WellFormed no_definitions n 0 v → Levels levels
      → (expression.write (quote v) ≡ expression.write (quote u)) × (level long_way levels v ≡ level long_way levels u)
  -- "no defined name remaining", its indices known and its argument counts right,
  pub no_name_left : (m n : ℕ) (bytes : List ℕ) (b : Belongs file m n bytes) (u : Term) → Replaced file m n bytes b u → WellFormed no_definitions n 0 u
  -- so that its level is worked out "without any card": whatever cards there were, it would be the same.
  pub without_any_card : (m n : ℕ) (bytes levels : List ℕ) (b : Belongs file m n bytes) (u : Term) → Replaced file m n bytes b u → (any_cards : ℕ → List ℕ → ℕ)
      → level (by_cards any_cards) levels u ≡ level long_way levels u

-- THE LEVEL QUERY
pub record LevelQueries (file : List ℕ) : Type 0 where
  -- For every expression that belongs and every choice of levels it replies, and with the long way's level.
  pub level-query : (lent : List ℕ) → Enough lent → (m : ℕ) (levels bytes : List ℕ) (b : Belongs file m (length levels) bytes) → Levels levels
      → (u : Term) → Replaced file m (length levels) bytes b u → level_tells file lent m levels bytes ≡ result (level long_way levels u)
  -- "any level query answers" the long way's level and verdict: whatever it was asked and lent, what it replied to belongs.
  pub any_level_query : (lent : List ℕ) (m : ℕ) (levels bytes : List ℕ) (l : ℕ) → level_tells file lent m levels bytes ≡ result l
      → (b : Belongs file m (length levels) bytes) × Levels levels
      × ((u : Term) → Replaced file m (length levels) bytes b u → (l ≡ level long_way levels u) × (verdict l ≡ verdict (level long_way levels u)))

-- THE CARDS, as the bytes left in the memory lent
pub record Cards (file left : List ℕ) (k : ℕ) : Type 0 where
  -- They "give an expression its level" and verdict: the long way's (a parameter without a level counts as 4 on both sides).
  pub by-cards : (m n : ℕ) (bytes levels : List ℕ) (b : Belongs file m n bytes) → Levels levels → (u : Term) → Replaced file m n bytes b u
      → (level (by_cards (card_in left)) levels (term_of file m n bytes b) ≡ level long_way levels u)
      × (verdict (level (by_cards (card_in left)) levels (term_of file m n bytes b)) ≡ verdict (level long_way levels u))
  -- "Every card of such a file, whatever levels its definition's parameters have, gives the level of that definition so replaced", "a brought one taken as its
  -- instance brings it" (InFull's by_instance). For a brought one the rules find the card, by definition, from the levels of its expansion, since it must not come from the original's
  -- card; what is proved of it here is that replacing in full comes to that expansion (`in-full`, proofs/InFull), and that the card says its level at every vector (`exact-cards`). That
  -- this level is that of the original's text, read through the chain of instances, is `every-card-in-world` (crates/worlds/proofs/File); that the bytes in memory are the rules' cards is
  -- `Demand2.every_card_byte`.
  pub every_card : (g : ℕ) (levels : List ℕ) → g < k → length levels ≡ params_of (state_of file) g → Levels levels
      → (u : Term) → InFull (state_of file) (name_at_params (state_of file) g) u → card_in left g levels ≡ level long_way levels u
  pub definitions_can_be_replaced : (g : ℕ) → g < k → (u : Term) × InFull (state_of file) (name_at_params (state_of file) g) u

-- THE EXPANSION QUERY
pub record ExpansionQueries (file : List ℕ) : Type 0 where
  -- If it replies, the expression belongs and the output holds it replaced in full;
  pub any_expansion_query : (lent : List ℕ) (m n : ℕ) (bytes output : List ℕ) (l : ℕ) → expand_tells file lent m n bytes output ≡ result l
      → (b : Belongs file m n bytes)
      × ((u : Term) → Replaced file m n bytes b u → Expanded file m n bytes b output (expand_writes file lent m n bytes output) l u)
  -- it replies, or is refused with 18, and that exactly when what is replaced in full is "longer than the output or 65,535 bytes" (`expansion_bytes`, the limit 65,535);
  pub expansion-query : (lent : List ℕ) → Enough lent → (m n : ℕ) (bytes output : List ℕ) (b : Belongs file m n bytes) (u : Term) → Replaced file m n bytes b u
      → length (expression.write (quote u)) ≤ expansion_bytes → length (expression.write (quote u)) ≤ length output
      → expand_tells file lent m n bytes output ≡ result (length (expression.write (quote u)))
  pub expansion_refused : (lent : List ℕ) → Enough lent → (m n : ℕ) (bytes output : List ℕ) (b : Belongs file m n bytes) (u : Term) → Replaced file m n bytes b u
      → (c p : ℕ) → (expand_tells file lent m n bytes output ≡ refusal c p)
      ↔ (((expansion_bytes < length (expression.write (quote u))) ⊎ (length output < length (expression.write (quote u)))) × (c ≡ 18) × (p ≡ 0))
  -- "A moved bound index may there pass two bytes; an expansion that holds one is always over 65,535 bytes, so a query for it is 18"
  -- (`reach u` is one past the largest bound index in u);
  pub far_index : (lent : List ℕ) → Enough lent → (m n : ℕ) (bytes output : List ℕ) (b : Belongs file m n bytes) (u : Term) → Replaced file m n bytes b u
      → 65536 < reach u → (expansion_bytes < length (expression.write (quote u))) × (expand_tells file lent m n bytes output ≡ refusal 18 0)
  -- on any refusal the output stays as it was.
  pub expansion_refused_output : (lent : List ℕ) (m n : ℕ) (bytes output : List ℕ) (c p : ℕ) → expand_tells file lent m n bytes output ≡ refusal c p
      → expand_writes file lent m n bytes output ≡ output

-- THE TWO QUERIES NEVER DISAGREE.
pub record Agreement (file : List ℕ) : Type 0 where
  -- The level replied for an expression is the level, without cards, of the expression that the bytes of its expansion spell,
  pub never_disagree : (lent lent' : List ℕ) (m : ℕ) (levels bytes output : List ℕ) (l i : ℕ) → level_tells file lent m levels bytes ≡ result l
      → expand_tells file lent' m (length levels) bytes output ≡ result i
      → (b : Belongs file m (length levels) bytes) × (back : Expression)
      × (expression.read (take i (expand_writes file lent' m (length levels) bytes output)) ≡ some back)
      × WellFormed no_definitions (length levels) 0 (resolve (state_of file) b.place.context back)
      × (l ≡ level long_way levels (resolve (state_of file) b.place.context back))
  -- and a level query of those bytes, where it replies (they may pass nesting 32), replies the same.
  pub asked_again : (lent lent' lent'' : List ℕ) (m : ℕ) (levels bytes output : List ℕ) (l i l' : ℕ) → level_tells file lent m levels bytes ≡ result l
      → expand_tells file lent' m (length levels) bytes output ≡ result i
      → level_tells file lent'' m levels (take i (expand_writes file lent' m (length levels) bytes output)) ≡ result l' → l' ≡ l

-- DEMAND 3 of a file accepted with k definitions in the card memory `lent`
pub record Demand3 (file lent : List ℕ) (k : ℕ) : Type 0 where
  pub definitions : Definitions file k
  -- "Each call checks the file afresh": the file is accepted in any memory of the stated size; so all of this holds of that memory too.
  pub accepted_in_any : (other : List ℕ) → Enough other → check_tells file other ≡ result k
  pub long-way : Replacing file
  pub level_queries : LevelQueries file
  pub cards_say : Cards file (check_leaves file lent) k
  -- every query leaves these bytes too
  pub query_cards : (other : List ℕ) → QueryCards file other
  pub expansion_queries : ExpansionQueries file
  pub agreement : Agreement file
