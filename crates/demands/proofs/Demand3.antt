-- DEMAND 3: `demand-3`, the last theorem. Before it the same with the expansion as the rules work it out (`expansion_of`), which is what
-- replacing in full gives (`InFull.in-full`).
use borrow.Author.Tests.{le-ltb}
use mathlib.Core.List.{List, [], ◌++◌, ◌∷◌}
use mathlib.Core.Logic.{◌↔◌, ◌⊎◌}
use mathlib.Core.Option.{Option, none, some}
use mathlib.Core.Path.{◌∙◌, ◌≡◌, ap, ap₂, refl, subst, sym}
use lib.Dec.{T, leb→le}
use lib.ListN.{drop, length, take}
use lib.Seq.{drop_at, take_at}
use native.Mathlib.Omega.{arith}
use Prim.Native.Nat.{◌<◌, ◌≤◌, ℕ}
use Rattle.demands.proofs.AddedBy.{added-by}
use Rattle.demands.proofs.AnyOrder.{any-order-bytes, any-order-level}
use Rattle.demands.proofs.Captured.{same-meaning}
use Rattle.demands.proofs.InFull.{can_be_replaced, in-full, name-can-be-replaced}
use Rattle.demands.specs.Demand3.{Demand3, Expanded, Replaced}
use Rattle.demands.proofs.Accepted.{state-of}
use Rattle.demands.specs.Archive.{check_tells, expand_tells, expand_writes, state_of}
use Rattle.demands.specs.LongWay.{InFull}
use Rattle.demands.specs.Replies.{Belongs, term_of}
use Rattle.laws.specs.Cards.{card_in, name_at_params}
use Rattle.demands.proofs.Demand2.{demand-2}
use Rattle.demands.proofs.Told.{check-told, expand-told, level-told}
use Rattle.laws.proofs.Accept.{Accepts, accepted-fields}
use Rattle.laws.proofs.Checks.{accepted-exactly, by-fields, lawful-when-accepted}
use Rattle.laws.proofs.Demand3 as L
use Rattle.laws.proofs.Ended.{ended-stands, lookup}
use Rattle.laws.proofs.FileRefusals.{and_then-refusal, not-refusal}
use Rattle.laws.proofs.Formats.{some-injective}
use Rattle.laws.proofs.Heads.{Heads, Named}
use Rattle.laws.proofs.Names.{expansion-names}
use Rattle.laws.proofs.Origins.{In}
use Rattle.laws.proofs.Modules.{Grows, after-grows, body-name, state_after as state_ended}
use Rattle.laws.specs.Modules.{HasModule, state_body}
use Rattle.laws.proofs.Outputs.{output-unchanged}
use Rattle.laws.proofs.Quoting.{quote-length}
use Rattle.laws.proofs.ReadBack.{expansion-quoted}
use Rattle.laws.proofs.Expressions.{expression-back}
use Rattle.laws.proofs.Replies.{and_then-result, belongs-taken, query-taken, result-injective, taken-belongs, unless_longer-result}
use Rattle.laws.proofs.QueryRefusals.{longer-refused, taken-query}
use Rattle.limits.specs.Limits.{card_memory_bytes, expansion_bytes}
use Rattle.rules.specs.Expression.{Expression, expression}
use Rattle.rules.specs.Field.{Field, FieldFits, begin_module, end_module}
use Rattle.rules.specs.Instance.{source}
use Rattle.rules.specs.Query.{ExpansionAnswer, expansion_bytes_of, expansion_query, expansion_reply, level_query, output_after, query_term, quote, unless_longer}
use Rattle.rules.specs.Run.{Outcome, and_then, file_check, checked, refusal, result}
use Rattle.rules.specs.State.{Module, State, card_level, definition_at, expansion_of, level_of, module_named, no_module, params_of, resolve, start}
use Rattle.theory.proofs.ExpandFirst.{no-defined}
use Rattle.theory.proofs.Index.{far_index}
use Rattle.theory.specs.Index.{reach}
use Rattle.theory.specs.Level.{IsLevel, verdict}
use Rattle.theory.proofs.Lists.{split-all}
use Rattle.theory.specs.Expand.{brought, instantiate, own}
use Rattle.theory.specs.Lists.{All, is_some, or_else}
use Rattle.theory.specs.Term.{Kind, Reading, Term, WellFormed, by_cards, eval, level, long_way, no_definitions, with_defined}

-- "The long way of demand 3 uses no card: it expands the whole expression and levels what is left by the same rules, no defined name remaining."
abbrev pub long_way_level : State → List ℕ → Term → ℕ
long_way_level s ρ t = level long_way ρ (expansion_of s t)

-- What belongs to demand 3 is what a query takes: it is never turned down on 17, 3, 5, 9 or 10 there, and nothing else is taken.
pub belongs-exactly : (file : List ℕ) (m n : ℕ) (bytes : List ℕ) (t : Term)
    → (query_term (state_of file) m [] n bytes ≡ result t) ↔ ((b : Belongs file m n bytes) × (term_of file m n bytes b ≡ t))
belongs-exactly file m n bytes t = (there, λ r. back r.0 r.1)
  where
    there : query_term (state_of file) m [] n bytes ≡ result t → (b : Belongs file m n bytes) × (term_of file m n bytes b ≡ t)
    there e = taken-belongs (state_of file) m n [] bytes t (query-taken (state_of file) m n [] bytes t e)

    back : (b : Belongs file m n bytes) → term_of file m n bytes b ≡ t → query_term (state_of file) m [] n bytes ≡ result t
    back b e = taken-query (state_of file) m n [] bytes (term_of file m n bytes b) (belongs-taken (state_of file) m n bytes b) ∙ ap result e

-- What an expansion query has done that replies with l for an expression over n parameters that belongs to demand 3: `after` is the output then.
pub record Told (file : List ℕ) (m n : ℕ) (bytes : List ℕ) (b : Belongs file m n bytes) (output after : List ℕ) (l : ℕ) : Type 0 where
  -- its reply is the length of the true expansion's bytes, which are the output's first; "only its length" is written
  pub length_true : l ≡ length (expansion_bytes_of (state_of file) (term_of file m n bytes b))
  pub bytes_true : take l after ≡ expansion_bytes_of (state_of file) (term_of file m n bytes b)
  pub rest_stays : drop l after ≡ drop l output
  -- the bytes read back are an expression, which in the module means the expansion:
  pub back : Expression
  pub reads_back : expression.read (take l after) ≡ some back
  pub means : resolve (state_of file) b.place.context back ≡ expansion_of (state_of file) (term_of file m n bytes b)
  -- "no defined name remaining", every parameter and index known, every argument count right
  pub basic : WellFormed no_definitions n 0 (resolve (state_of file) b.place.context back)

module _ (file cards : List ℕ) (k : ℕ) (accepted : (file_check file cards).reply ≡ result k) where
  abbrev s : State
  s = state_of file

  accepted-state : (checked file cards ≡ result s) × (length s.definitions ≡ k)
  accepted-state =
      and_then-result (checked file cards) (λ s. result (length s.definitions)) k accepted λ s' a i.
      let e = sym (state-of file cards s' a) in
      (a ∙ ap {B = Outcome State} result e, ap (λ (x : State). length x.definitions) (sym e) ∙ result-injective i)

  -- the number replied is that of the definitions
  pub definitions-counted : k ≡ length s.definitions
  definitions-counted = sym accepted-state.1

  fields-of : Accepts start file s
  fields-of = accepted-fields file s (by-fields file cards s accepted-state.0)

  -- Each call checks afresh: the file is accepted in any other memory of the stated size.
  accepted-in : (lent : List ℕ) → card_memory_bytes ≤ length lent → checked file lent ≡ result s
  accepted-in lent room =
      let (fit, accepts) = (accepted-exactly file cards s).0 accepted-state.0 in
      (accepted-exactly file lent s).1 (record { room = room; some_bytes = fit.some_bytes; not_over = fit.not_over }, accepts)

  -- "at the end of every module": a module of the file is found by its name, as it stands at its end;
  module-found : {m : ℕ} {body : List Field} (h : HasModule fields-of.fields m body) → module_named s m ≡ some (state_body h).current
  module-found {m} {body} h = go (module_named s m) refl
    where
      there : source s m ≡ (state_body h).current
      there = lookup fields-of.clear h s (subst (Grows (state_ended h)) fields-of.reached (after-grows h))

      go : (o : Option Module) → module_named s m ≡ o → module_named s m ≡ some (state_body h).current
      go none p =
          let unnamed : 0 ≡ m = ap (λ (o : Option Module). (or_else no_module o).name) (sym p) ∙ ap (λ (M : Module). M.name) there ∙ body-name h in
          let fits = (split-all FieldFits h.before (begin_module m ∷ (body ++ (end_module ∷ h.behind))) (subst (All FieldFits) h.split fields-of.fit)).1.0 in
          absurd (omega (arith, unnamed, leb→le 1 m fits.0.1))
      go (some M) p = p ∙ ap {B = Option Module} some (ap (or_else no_module) (sym p) ∙ there)

  -- and no other is found.
  module-stands : (m : ℕ) (M : Module) → module_named s m ≡ some M → (body : List Field) × HasModule fields-of.fields m body
  module-stands m M e =
      ended-stands fields-of.fields m fields-of.clear (subst (λ (o : Option Module). T (is_some o)) (sym (ap (λ (u : State). module_named u m) fields-of.reached ∙ e)) tt)

  -- a call that replied was lent enough, and saw the same state
  replied-in : (lent : List ℕ) (s' : State) → checked file lent ≡ result s' → checked file lent ≡ result s
  replied-in lent s' a = accepted-in lent (lawful-when-accepted file lent s' a).0.room

  -- THE LEVEL QUERY. "in every accepted file, at the end of every module, for every expression within the limits with known names, known indices and right
  -- argument counts, and for every level of every parameter, "not level-correct" among them": it replies, and with the long way's level.
  pub level-query : (lent : List ℕ) → card_memory_bytes ≤ length lent → (m : ℕ) (levels bytes : List ℕ) (b : Belongs file m (length levels) bytes) → All IsLevel levels
      → (level_query file lent m levels bytes).reply ≡ result (long_way_level s levels (term_of file m (length levels) bytes b))
  level-query lent room m levels bytes b a = L.level-query file lent s (accepted-in lent room) m levels bytes b a

  -- "any level query answers": whatever it is asked and lent, if it replies l, the expression belongs to demand 3 and l is the long way's level.
  pub any_level_query : (lent : List ℕ) (m : ℕ) (levels bytes : List ℕ) (l : ℕ) → (level_query file lent m levels bytes).reply ≡ result l
      → (b : Belongs file m (length levels) bytes) × All IsLevel levels × (l ≡ long_way_level s levels (term_of file m (length levels) bytes b))
      × (verdict l ≡ verdict (long_way_level s levels (term_of file m (length levels) bytes b)))
  any_level_query lent m levels bytes l e =
      and_then-result (checked file lent) _ l e λ s' a i.
      let r = L.level-query-replied file lent s (replied-in lent s' a) m levels bytes l e in
      (r.0, r.1, r.2, ap verdict r.2)

  -- "exactly the level and the verdict that our cards give": by the rules for cards, read as the bytes that a check leaves in memory
  pub by-cards : (m n : ℕ) (bytes levels : List ℕ) (b : Belongs file m n bytes) → All IsLevel levels
      → (level (by_cards (card_in (file_check file cards).memory)) levels (term_of file m n bytes b) ≡ long_way_level s levels (term_of file m n bytes b))
      × (verdict (level (by_cards (card_in (file_check file cards).memory)) levels (term_of file m n bytes b)) ≡ verdict (long_way_level s levels (term_of file m n bytes b)))
  by-cards m n bytes levels b a =
      let e = L.one-level-by-bytes file cards s accepted-state.0 m n bytes b levels a in
      (e, ap verdict e)

  -- "no defined name remaining": every parameter and index of the expansion is known, every argument count right,
  pub expansion-basic : (m n : ℕ) (bytes : List ℕ) (b : Belongs file m n bytes) → WellFormed no_definitions n 0 (expansion_of s (term_of file m n bytes b))
  expansion-basic m n bytes b = L.expansion-closed file cards s accepted-state.0 m n bytes b

  -- so that "without any card" is meant in earnest: whatever cards there were, the level of the expansion would be this one.
  pub without_any_card : (m n : ℕ) (bytes levels : List ℕ) (b : Belongs file m n bytes) (any_cards : ℕ → List ℕ → ℕ)
      → level (by_cards any_cards) levels (expansion_of s (term_of file m n bytes b)) ≡ long_way_level s levels (term_of file m n bytes b)
  without_any_card m n bytes levels b any_cards = no-defined long_way any_cards n 0 levels [] (expansion_of s (term_of file m n bytes b)) (expansion-basic m n bytes b)

  -- THE EXPANSION QUERY. Whatever it is asked and lent, if it replies l, the expression belongs to demand 3 and the output holds its true expansion.
  pub any_expansion_query : (lent : List ℕ) (m n : ℕ) (bytes output : List ℕ) (l : ℕ) → (expansion_query file lent m n bytes output).reply ≡ result l
      → (b : Belongs file m n bytes) × Told file m n bytes b output (expansion_query file lent m n bytes output).output l
  any_expansion_query lent m n bytes output l e =
      and_then-result (and_then (checked file lent) (expansion_reply m n bytes (length output))) (λ w. result (length w)) l e λ w e₁ e₂.
      and_then-result (checked file lent) (expansion_reply m n bytes (length output)) w e₁ λ s' e₃ e₄.
      let a = replied-in lent s' e₃ in
      let e₅ = sym (ap (λ (v : Outcome State). and_then v (expansion_reply m n bytes (length output))) a) ∙ e₁ in
      and_then-result (query_term s m [] n bytes) (λ t. unless_longer (expansion_bytes_of s t) (length output)) w e₅ λ t e₆ e₇.
      let q = (belongs-exactly file m n bytes t).0 e₆ in
      let b = q.0 in
      let u = unless_longer-result (expansion_bytes_of s t) (length output) w e₇ in
      let same : expansion_bytes_of s (term_of file m n bytes b) ≡ w = ap (expansion_bytes_of s) q.1 ∙ u.0 in
      let long : l ≡ length w = sym (result-injective e₂) in
      let short : length (expansion_bytes_of s (term_of file m n bytes b)) ≤ expansion_bytes = rw q.1 u.1 in
      let fits = (expression-back bytes b.expr b.clear₃).0 in
      let r = expansion-quoted file s (by-fields file lent s a) m b.place b.ended n b.clear₅.0 b.expr fits b.clear₉ b.clear₁₀ short in
      let written = ap (λ (o : Outcome (List ℕ)). output_after o output) e₁ in
      let front = ap (take l) written ∙ take_at w (drop (length w) output) l (sym long) ∙ sym same in (
        b,
        record {
          length_true = long ∙ ap length (sym same);
          bytes_true = front;
          rest_stays = ap (drop l) written ∙ drop_at w (drop (length w) output) l (sym long) ∙ ap (λ (i : ℕ). drop i output) (sym long);
          back = quote (expansion_of s (term_of file m n bytes b));
          reads_back = ap expression.read front ∙ r.0;
          means = r.1;
          basic = subst (WellFormed no_definitions n 0) (sym r.1) (expansion-basic m n bytes b);
        },
      )

  -- It replies wherever there is room: for every expression that belongs to demand 3 whose expansion is within 65,535 bytes and the output,
  pub expansion-query : (lent : List ℕ) → card_memory_bytes ≤ length lent → (m n : ℕ) (bytes output : List ℕ) (b : Belongs file m n bytes)
      → length (expansion_bytes_of s (term_of file m n bytes b)) ≤ expansion_bytes → length (expansion_bytes_of s (term_of file m n bytes b)) ≤ length output
      → (expansion_query file lent m n bytes output).reply ≡ result (length (expansion_bytes_of s (term_of file m n bytes b)))
  expansion-query lent room m n bytes output b short fits =
      let w = expansion_bytes_of s (term_of file m n bytes b) in
      let e : unless_longer w (length output) ≡ result w = rw (le-ltb expansion_bytes (length w) short, le-ltb (length output) (length w) fits) in
      ap (λ (x : ExpansionAnswer). x.reply) (L.expansion-query file lent s (accepted-in lent room) m n bytes output b)
      ∙ ap (λ (x : Outcome (List ℕ)). and_then x λ w. result (length w)) e

  -- and it is refused exactly where there is none, with 18: "too long" only after measuring.
  pub expansion_refused : (lent : List ℕ) → card_memory_bytes ≤ length lent → (m n : ℕ) (bytes output : List ℕ) (b : Belongs file m n bytes) (c p : ℕ)
      → ((expansion_query file lent m n bytes output).reply ≡ refusal c p)
      ↔ (((expansion_bytes < length (expansion_bytes_of s (term_of file m n bytes b))) ⊎ (length output < length (expansion_bytes_of s (term_of file m n bytes b)))) × (c ≡ 18) × (p ≡ 0))
  expansion_refused lent room m n bytes output b c p =
      let w = expansion_bytes_of s (term_of file m n bytes b) in
      let e = ap (λ (x : ExpansionAnswer). x.reply) (L.expansion-query file lent s (accepted-in lent room) m n bytes output b) in (
        (λ i. (longer-refused w (length output) c p).0 (and_then-refusal (unless_longer w (length output)) (λ w. result (length w)) c p (sym e ∙ i) (λ q. q) (λ w q i. not-refusal (length w) c p i))),
        (λ r. e ∙ ap (λ (x : Outcome (List ℕ)). and_then x λ w. result (length w)) ((longer-refused w (length output) c p).1 r)),
      )

  -- A refused expansion query leaves the output as it was.
  pub expansion_refused_output : (lent : List ℕ) (m n : ℕ) (bytes output : List ℕ) (c p : ℕ) → (expansion_query file lent m n bytes output).reply ≡ refusal c p
      → (expansion_query file lent m n bytes output).output ≡ output
  expansion_refused_output lent m n bytes output c p e = output-unchanged file lent m n bytes output c p e

  -- THE TWO QUERIES NEVER DISAGREE. The level replied is the level, by the rules and without cards, of the expression that the expansion's bytes spell;
  pub never_disagree : (lent lent' : List ℕ) (m : ℕ) (levels bytes output : List ℕ) (l i : ℕ) → (level_query file lent m levels bytes).reply ≡ result l
      → (expansion_query file lent' m (length levels) bytes output).reply ≡ result i
      → (b : Belongs file m (length levels) bytes) × (back : Expression)
      × (expression.read (take i (expansion_query file lent' m (length levels) bytes output).output) ≡ some back)
      × WellFormed no_definitions (length levels) 0 (resolve s b.place.context back) × (l ≡ level long_way levels (resolve s b.place.context back))
  never_disagree lent lent' m levels bytes output l i e f =
      and_then-result (checked file lent) _ l e λ s' a _.
      let (b, x) = any_expansion_query lent' m (length levels) bytes output i f in
      let low = (any_level_query lent m levels bytes l e).1 in
      let room = (lawful-when-accepted file lent s' a).0.room in
      let long : l ≡ long_way_level s levels (term_of file m (length levels) bytes b) = result-injective (sym e ∙ level-query lent room m levels bytes b low) in
      (b, x.back, x.reads_back, x.basic, long ∙ ap (level long_way levels) (sym x.means))

  -- and a level query of those bytes, where it replies, gives the same level again.
  pub asked_again : (lent : List ℕ) (m : ℕ) (levels bytes output after : List ℕ) (i : ℕ) (b : Belongs file m (length levels) bytes)
      → Told file m (length levels) bytes b output after i → (l : ℕ) → (level_query file lent m levels (take i after)).reply ≡ result l
      → l ≡ long_way_level s levels (term_of file m (length levels) bytes b)
  asked_again lent m levels bytes output after i b x l e =
      let (b', low, long, _) = any_level_query lent m levels (take i after) l e in
      let place : b'.place ≡ b.place = some-injective (sym b'.ended ∙ b.ended) in
      let expr : b'.expr ≡ x.back = some-injective (sym b'.clear₃ ∙ x.reads_back) in
      let t = expansion_of s (term_of file m (length levels) bytes b) in
      let term : term_of file m (length levels) (take i after) b' ≡ t = ap₂ (λ (M : Module) (e : Expression). resolve s M.context e) place expr ∙ x.means in
      long ∙ sym (L.one-level file cards s accepted-state.0 m (length levels) (take i after) b' levels low)
      ∙ ap (level_of s levels) term ∙ without_any_card m (length levels) bytes levels b (card_level s)

  -- CARDS. "Every card of such a file, whatever levels its definition's parameters have, gives the level of that definition so replaced."
  pub every_card : (g : ℕ) (levels : List ℕ) → g < k → length levels ≡ params_of s g → All IsLevel levels
      → card_in (file_check file cards).memory g levels ≡ long_way_level s levels (name_at_params s g)
  every_card g levels l n a = L.every_card_byte file cards s accepted-state.0 g levels (omega (arith, accepted-state.1)) n a

  -- An own definition's is the level of its body, expanded;
  pub own-card : (g : ℕ) (levels : List ℕ) → g < k → length levels ≡ params_of s g → All IsLevel levels → (n : ℕ) (t : Term) → (definition_at s g).meaning ≡ own n t
      → card_in (file_check file cards).memory g levels ≡ level long_way levels (expansion_of s t)
  own-card g levels l n a p t e =
      every_card g levels l n a ∙ ap (level long_way levels) (L.own-expansion file cards s accepted-state.0 g p t (omega (arith, accepted-state.1)) e)

  -- "a brought one taken as its instance brings it": of F's expansion in its module, with every declared name substituted, each substitute expanded.
  pub brought-card : (g : ℕ) (levels : List ℕ) → g < k → length levels ≡ params_of s g → All IsLevel levels → (p h : ℕ) (σ : Kind → ℕ → Term) → h < k
      → (definition_at s g).meaning ≡ brought p σ h
      → card_in (file_check file cards).memory g levels ≡ level long_way levels (instantiate (λ c x. expansion_of s (σ c x)) p (expansion_of s (name_at_params s h)))
  brought-card g levels l n a p h σ i e =
      every_card g levels l n a
      ∙ ap (level long_way levels) (L.brought-expansion file cards s accepted-state.0 g p h σ (omega (arith, accepted-state.1)) (omega (arith, accepted-state.1)) e)

  -- REPLACED IN FULL is the expansion.
  is-expansion : (m n : ℕ) (bytes : List ℕ) (b : Belongs file m n bytes) (u : Term) → Replaced file m n bytes b u → u ≡ expansion_of s (term_of file m n bytes b)
  is-expansion m n bytes b u r = in-full file cards s accepted-state.0 (term_of file m n bytes b) u r

  replaced : (m n : ℕ) (bytes : List ℕ) (b : Belongs file m n bytes) → Replaced file m n bytes b (expansion_of s (term_of file m n bytes b))
  replaced m n bytes b =
      can_be_replaced file cards s accepted-state.0 n (term_of file m n bytes b) (L.well-formed file cards s accepted-state.0 m n bytes b)

  expanded : (lent : List ℕ) (m n : ℕ) (bytes output : List ℕ) (l : ℕ) → (expansion_query file lent m n bytes output).reply ≡ result l
      → (b : Belongs file m n bytes)
      × ((u : Term) → Replaced file m n bytes b u → Expanded file m n bytes b output (expansion_query file lent m n bytes output).output l u)
  expanded lent m n bytes output l e =
      let (b, x) = any_expansion_query lent m n bytes output l e in (
        b,
        λ u r.
            let q = is-expansion m n bytes b u r in
            record {
              bytes_true = x.bytes_true ∙ ap (λ (t : Term). expression.write (quote t)) (sym q);
              length_true = x.length_true ∙ ap (λ (t : Term). length (expression.write (quote t))) (sym q);
              rest_stays = x.rest_stays;
              back = x.back;
              reads_back = x.reads_back;
              means = x.means ∙ sym q;
            },
      )

  again : (lent lent' lent'' : List ℕ) (m : ℕ) (levels bytes output : List ℕ) (l i l' : ℕ) → (level_query file lent m levels bytes).reply ≡ result l
      → (expansion_query file lent' m (length levels) bytes output).reply ≡ result i
      → (level_query file lent'' m levels (take i (expansion_query file lent' m (length levels) bytes output).output)).reply ≡ result l' → l' ≡ l
  again lent lent' lent'' m levels bytes output l i l' e f h =
      and_then-result (checked file lent) _ l e λ s' a _.
      let (b, x) = any_expansion_query lent' m (length levels) bytes output i f in
      let low = (any_level_query lent m levels bytes l e).1 in
      let long = result-injective (sym e ∙ level-query lent (lawful-when-accepted file lent s' a).0.room m levels bytes b low) in
      asked_again lent'' m levels bytes output _ i b x l' h ∙ sym long

  far-longer : (m n : ℕ) (bytes : List ℕ) (b : Belongs file m n bytes) → 65536 < reach (expansion_of s (term_of file m n bytes b))
      → expansion_bytes < length (expression.write (quote (expansion_of s (term_of file m n bytes b))))
  far-longer m n bytes b h =
      let t = expansion_of s (term_of file m n bytes b) in
      let w = expansion-basic m n bytes b in
      subst (λ (i : ℕ). expansion_bytes < i) (sym (quote-length t n 0 w)) (far_index t no_definitions n w h)

  -- the record, of a file that a check accepts
  of-accepted : Demand3 file cards k
  of-accepted =
      record {
        definitions = record {
          fields = fields-of.fields;
          laid_out = (fields-of.fit, fields-of.written);
          reached = sym fields-of.reached;
          counted = definitions-counted;
          each_by_a_field =
              λ g l. added-by fields-of.fields start g (omega arith) (rw fields-of.reached (omega (arith, accepted-state.1)));
          every_module = module-found;
          no_other_module = module-stands;
        };
        accepted_in_any =
            λ lent room. check-told file lent ∙ ap (λ (o : Outcome State). and_then o λ s. result (length s.definitions)) (accepted-in lent room) ∙ ap {B = Outcome ℕ} result accepted-state.1;
        long-way = record {
          can_be_replaced = λ m n bytes b. (expansion_of s (term_of file m n bytes b), replaced m n bytes b);
          in_one_way = λ m n bytes b u v p q. is-expansion m n bytes b u p ∙ sym (is-expansion m n bytes b v q);
          is_the_expansion = is-expansion;
          names_in_any_order =
              λ m n bytes levels b u v r a c l.
              let t = term_of file m n bytes b in
              let w = L.well-formed file cards s accepted-state.0 m n bytes b in
              let q = sym (is-expansion m n bytes b u r) in (
                any-order-bytes file cards s accepted-state.0 n t v a w c (expansion-basic m n bytes b) ∙ ap (λ (x : Term). expression.write (quote x)) q,
                any-order-level file cards s accepted-state.0 n levels l t v a w c ∙ ap (level long_way levels) q,
              );
          no_name_left = λ m n bytes b u r. subst (WellFormed no_definitions n 0) (sym (is-expansion m n bytes b u r)) (expansion-basic m n bytes b);
          without_any_card =
              λ m n bytes levels b u r any_cards.
              subst (λ (t : Term). level (by_cards any_cards) levels t ≡ level long_way levels t) (sym (is-expansion m n bytes b u r)) (without_any_card m n bytes levels b any_cards);
        };
        level_queries = record {
          level-query =
              λ lent room m levels bytes b a u r.
              level-told file lent m levels bytes ∙ level-query lent room m levels bytes b a ∙ ap (λ (t : Term). result (level long_way levels t)) (sym (is-expansion m (length levels) bytes b u r));
          any_level_query =
              λ lent m levels bytes l e.
              let (b, a, long, _) = any_level_query lent m levels bytes l (sym (level-told file lent m levels bytes) ∙ e) in
              (b, a, λ u r. let q = long ∙ ap (level long_way levels) (sym (is-expansion m (length levels) bytes b u r)) in (q, ap verdict q));
        };
        cards_say = record {
          by-cards =
              λ m n bytes levels b a u r.
              let q = (by-cards m n bytes levels b a).0 ∙ ap (level long_way levels) (sym (is-expansion m n bytes b u r)) in
              (q, ap verdict q);
          every_card =
              λ g levels l n a u r.
              every_card g levels l n a ∙ ap (level long_way levels) (sym (in-full file cards s accepted-state.0 (name_at_params s g) u r));
          definitions_can_be_replaced =
              λ g l. (expansion_of s (name_at_params s g), name-can-be-replaced file cards s accepted-state.0 g (omega (arith, accepted-state.1)));
        };
        query_cards = demand-2.query_cards file;
        expansion_queries = record {
          any_expansion_query = λ lent m n bytes output l e. expanded lent m n bytes output l (sym (expand-told file lent m n bytes output) ∙ e);
          expansion-query =
              λ lent room m n bytes output b u r.
              subst (λ (t : Term). length (expression.write (quote t)) ≤ expansion_bytes → length (expression.write (quote t)) ≤ length output
              → expand_tells file lent m n bytes output ≡ result (length (expression.write (quote t))))
              (sym (is-expansion m n bytes b u r)) (λ short fits. expand-told file lent m n bytes output ∙ expansion-query lent room m n bytes output b short fits);
          expansion_refused =
              λ lent room m n bytes output b u r c p.
              subst (λ (t : Term). (expand_tells file lent m n bytes output ≡ refusal c p)
              ↔ (((expansion_bytes < length (expression.write (quote t))) ⊎ (length output < length (expression.write (quote t)))) × (c ≡ 18) × (p ≡ 0)))
              (sym (is-expansion m n bytes b u r)) (
                λ e. (expansion_refused lent room m n bytes output b c p).0 (sym (expand-told file lent m n bytes output) ∙ e),
                λ l. expand-told file lent m n bytes output ∙ (expansion_refused lent room m n bytes output b c p).1 l,
              );
          far_index =
              λ lent room m n bytes output b u r.
              subst (λ (t : Term). 65536 < reach t → (expansion_bytes < length (expression.write (quote t))) × (expand_tells file lent m n bytes output ≡ refusal 18 0))
              (sym (is-expansion m n bytes b u r)) λ h. (far-longer m n bytes b h, expand-told file lent m n bytes output ∙ L.far-index-is-18 file lent s (accepted-in lent room) m n bytes output b h);
          expansion_refused_output = λ lent m n bytes output c p e. expansion_refused_output lent m n bytes output c p (sym (expand-told file lent m n bytes output) ∙ e);
        };
        agreement = record {
          never_disagree =
              λ lent lent' m levels bytes output l i e f.
              never_disagree lent lent' m levels bytes output l i (sym (level-told file lent m levels bytes) ∙ e) (sym (expand-told file lent' m (length levels) bytes output) ∙ f);
          asked_again =
              λ lent lent' lent'' m levels bytes output l i l' e f g.
              let after = expand_writes file lent' m (length levels) bytes output in
              again lent lent' lent'' m levels bytes output l i l' (sym (level-told file lent m levels bytes) ∙ e) (sym (expand-told file lent' m (length levels) bytes output) ∙ f)
              (sym (level-told file lent'' m levels (take i after)) ∙ g);
        };
      }

  -- "bound indices moved so that nothing is captured": whatever built-ins, declared names and literals mean, in any type, what is replaced in full means what the
  -- expression does. (Beside the record, which would not be small with every type in it.)
  pub nothing-captured : {A : Type 0} (M : Reading A) (ρ : List A) (m n : ℕ) (bytes : List ℕ) (b : Belongs file m n bytes) (u : Term) → Replaced file m n bytes b u
      → (body : ℕ → Term) → ((g : ℕ) → g < k → InFull s (name_at_params s g) (body g))
      → eval M ρ [] u ≡ eval (with_defined M (λ g vs. eval M vs [] (body g))) ρ [] (term_of file m n bytes b)
  nothing-captured M ρ m n bytes b u r body bodies =
      same-meaning file cards s accepted-state.0 M ρ n (term_of file m n bytes b) u
      (L.well-formed file cards s accepted-state.0 m n bytes b) r body λ g l. bodies g (omega (arith, accepted-state.1))

  -- Every declared name left is one of the module's.
  pub names-of-the-module : (m n : ℕ) (bytes : List ℕ) (b : Belongs file m n bytes) (u : Term) → Replaced file m n bytes b u → Heads (Named (In b.place.context)) u
  names-of-the-module m n bytes b u r =
      subst (Heads (Named (In b.place.context))) (sym (is-expansion m n bytes b u r))
      (expansion-names file s (by-fields file cards s accepted-state.0) m b.place b.ended b.expr (expression-back bytes b.expr b.clear₃).0)

-- DEMAND 3. A file is accepted: a check of it, lent some card memory, tells the number k of its definitions. Nothing else is assumed.
pub demand-3 : (file lent : List ℕ) (k : ℕ) → check_tells file lent ≡ result k → Demand3 file lent k
demand-3 file lent k e = of-accepted file lent k (sym (check-told file lent) ∙ e)
