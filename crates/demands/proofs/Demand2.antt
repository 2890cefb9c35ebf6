-- DEMAND 2: `demand-2`, the last theorem.
use borrow.Author.Tests.{le-ltb}
use mathlib.Core.Bool.{Bool, false, true}
use mathlib.Core.List.{List, []}
use mathlib.Core.Logic.{◌↔◌, ◌⊎◌, inl, inr}
use mathlib.Core.Path.{◌∙◌, ◌≡◌, ap, refl, subst, sym}
use lib.ListN.{length, take}
use native.Mathlib.Omega.{arith}
use Prim.Native.Nat.{◌<◌, ℕ}
use Rattle.demands.proofs.Accepted.{accepted-obeys, accepted-state, accepted-told, check-accepted, fields-add, obeys-accepted, state-of}
use Rattle.demands.proofs.Told.{alike-told, body-told, check-told, expand-told, level-told}
use Rattle.demands.specs.Archive.{check_leaves, expand_tells, expand_writes, state_of}
use Rattle.demands.specs.Demand2.{Demand2}
use Rattle.demands.specs.Replies.{Alike, AlikeReplied, BodyReplied, ExpansionReplied, ExpansionWritten, LevelReplied, QueryRefused, by_file, by_query}
use Rattle.laws.proofs.Alike.{alike_cards, alike_replied}
use Rattle.laws.proofs.CheckMemory.{card-byte, card-left}
use Rattle.laws.proofs.Checks.{by-fields}
use Rattle.laws.proofs.Demand3 as L
use Rattle.laws.proofs.EqualCards.{one-spelling}
use Rattle.laws.proofs.EqualMemory.{equal-memory}
use Rattle.laws.proofs.FileRefusals.{check-refused, file-refused}
use Rattle.laws.proofs.Outputs.{output-written}
use Rattle.laws.proofs.QueryRefusals as refusals
use Rattle.laws.proofs.QueryReplies.{body-exact}
use Rattle.laws.proofs.Replies.{Taken, and_then-result, definition-there, result-injective, taken-belongs}
use Rattle.laws.specs.Bodies.{Body}
use Rattle.laws.specs.Cards.{card_part}
use Rattle.laws.specs.Queries.{term_in}
use Rattle.rules.specs.Query.{ExpansionAnswer, alike, alike_query, alike_reply, body_query, expansion_bytes_of, expansion_query, level_query, level_reply, the_definition, unless_longer}
use Rattle.rules.specs.Run.{Outcome, and_then, card, checked, result}
use Rattle.limits.specs.Limits.{expansion_bytes}
use Rattle.rules.specs.Field.{Field}
use Rattle.rules.specs.State.{State, definition_at}
use Rattle.theory.proofs.Lists.{never}

-- what a caller reads is the reply, so what is known of the one is known of the other
via : {A : Type 0} {P : Type 0} {x y z : A} → x ≡ y → ((y ≡ z) ↔ P) → (x ≡ z) ↔ P
via e f = (λ q. f.0 (sym e ∙ q), λ p. e ∙ f.1 p)

-- REFUSALS, by the words of the record
queries-refused : (file lent : List ℕ) (Own : State → ℕ → ℕ → ℕ → Type 0) (c p : ℕ) {P : Type 0} → (P ↔ refusals.Refuses file lent Own c p) → P ↔ QueryRefused file lent Own c p
queries-refused file lent Own c p f = (λ q. there (f.0 q), λ r. f.1 (back r))
  where
    there : refusals.Refuses file lent Own c p → QueryRefused file lent Own c p
    there (refusals.by_file e) = by_file ((file-refused file lent c p).0 e)
    there (refusals.by_query s fs a w o) =
        let (room, obeys) = accepted-obeys file lent s a in
        let same = one-spelling fs obeys.fields w.0 obeys.laid_out.0 (w.1 ∙ sym obeys.laid_out.1) in
        by_query room obeys (subst (λ (s : State). Own s (length obeys.fields) c p) (sym (state-of file lent s a)) (subst (λ (fs : List Field). Own s (length fs) c p) same o))

    back : QueryRefused file lent Own c p → refusals.Refuses file lent Own c p
    back (by_file r) = refusals.by_file ((file-refused file lent c p).1 r)
    back (by_query room obeys o) = refusals.by_query (state_of file) obeys.fields (obeys-accepted file lent room obeys) obeys.laid_out o

-- LEVEL
level-exactly : (file lent : List ℕ) (m : ℕ) (levels bytes : List ℕ) (l : ℕ)
    → ((level_query file lent m levels bytes).reply ≡ result l) ↔ LevelReplied file lent m levels bytes l
level-exactly file lent m levels bytes l = (there, back)
  where
    there : (level_query file lent m levels bytes).reply ≡ result l → LevelReplied file lent m levels bytes l
    there e =
        and_then-result (checked file lent) (level_reply m levels bytes) l e λ s a i.
        let (room, obeys) = accepted-obeys file lent s a in
        let a = accepted-state file lent s a in
        let (b, low, long) = L.level-query-replied file lent (state_of file) a m levels bytes l e in
        record {
          room = room;
          obeys = obeys;
          belongs = b;
          given = low;
          by-cards = long ∙ sym (L.one-level-by-bytes file lent (state_of file) a m (length levels) bytes b levels low);
        }

    back : LevelReplied file lent m levels bytes l → (level_query file lent m levels bytes).reply ≡ result l
    back r =
        let a = obeys-accepted file lent r.room r.obeys in
        L.level-query file lent (state_of file) a m levels bytes r.belongs r.given
        ∙ ap result (sym (L.one-level-by-bytes file lent (state_of file) a m (length levels) bytes r.belongs levels r.given) ∙ sym r.by-cards)

-- ALIKE
module _ (file lent : List ℕ) (g h : ℕ) (a : checked file lent ≡ result (state_of file)) (l : g < length (state_of file).definitions) (k : h < length (state_of file).definitions) where
  in_memory : (i : ℕ) → i < length (state_of file).definitions → card_part (check_leaves file lent) i ≡ card (state_of file) i
  in_memory = card-left file lent (state_of file) a

  alike-bytes : (alike (state_of file) g h ≡ true) ↔ Alike file (check_leaves file lent) g h
  alike-bytes = (
    λ e. let (n, same) = (alike_cards (state_of file) g h).0 e in (n, in_memory g l ∙ same ∙ sym (in_memory h k)),
    λ (n, same). (alike_cards (state_of file) g h).1 (n, sym (in_memory g l) ∙ same ∙ in_memory h k),
  )

  says : (b : Bool) → alike (state_of file) g h ≡ b
      → ((b ≡ true) × Alike file (check_leaves file lent) g h) ⊎ ((b ≡ false) × ¬ Alike file (check_leaves file lent) g h)
  says true e = inl (refl, alike-bytes.0 e)
  says false e = inr (refl, λ (s : Alike file (check_leaves file lent) g h). never (sym (alike-bytes.1 s) ∙ e))

  said : (b : Bool) → ((b ≡ true) × Alike file (check_leaves file lent) g h) ⊎ ((b ≡ false) × ¬ Alike file (check_leaves file lent) g h)
      → alike (state_of file) g h ≡ b
  said b (inl (e, s)) = alike-bytes.1 s ∙ sym e
  said b (inr (e, n)) = go (alike (state_of file) g h) refl
    where
      go : (c : Bool) → alike (state_of file) g h ≡ c → alike (state_of file) g h ≡ b
      go true q = absurd (n (alike-bytes.0 q))
      go false q = q ∙ sym e

alike-exactly : (file lent : List ℕ) (g h : ℕ) (b : Bool) → ((alike_query file lent g h).reply ≡ result b) ↔ AlikeReplied file lent g h b
alike-exactly file lent g h b = (there, back)
  where
    there : (alike_query file lent g h).reply ≡ result b → AlikeReplied file lent g h b
    there e =
        and_then-result (checked file lent) (alike_reply g h) b e λ s₀ a₀ _.
        let s = state_of file in
        let a = accepted-state file lent s₀ a₀ in
        let (room, obeys) = accepted-obeys file lent s₀ a₀ in
        let e₁ = sym (ap (λ (o : Outcome State). and_then o (alike_reply g h)) a) ∙ e in
        and_then-result (the_definition s g) (λ g. and_then (the_definition s h) λ h. result (alike s g h)) b e₁ λ i q e₂.
        and_then-result (the_definition s h) (λ h. result (alike s i h)) b e₂ λ j r e₃.
        let l = (definition-there s g i q).1 in
        let k = (definition-there s h j r).1 in
        record {
          room = room;
          obeys = obeys;
          first_there = l;
          second_there = k;
          says = says file lent g h a l k b (result-injective (sym (alike_replied file lent s a g h l k) ∙ e));
        }

    back : AlikeReplied file lent g h b → (alike_query file lent g h).reply ≡ result b
    back r =
        let a = obeys-accepted file lent r.room r.obeys in
        alike_replied file lent (state_of file) a g h r.first_there r.second_there ∙ ap result (said file lent g h a r.first_there r.second_there b r.says)

-- BODY
body-exactly : (file lent : List ℕ) (g : ℕ) (part : ℕ × ℕ) → ((body_query file lent g).reply ≡ result part) ↔ BodyReplied file lent g part
body-exactly file lent g part = (there, back)
  where
    there : (body_query file lent g).reply ≡ result part → BodyReplied file lent g part
    there e =
        let r = (body-exact file lent g part).0 e in
        let (room, obeys) = accepted-obeys file lent r.state r.accepted in
        let (l, p, b) = subst (λ (s : State). (g < length s.definitions) × (part ≡ ((definition_at s g).body_start, (definition_at s g).body_length)) × Body file s g)
        (sym (state-of file lent r.state r.accepted)) (r.there, r.part_is, r.body) in
        record { room = room; obeys = obeys; there = l; part_is = p; holds_the_body = b }

    back : BodyReplied file lent g part → (body_query file lent g).reply ≡ result part
    back r =
        (body-exact file lent g part).1
        (record { state = state_of file; accepted = obeys-accepted file lent r.room r.obeys; there = r.there; part_is = r.part_is; body = r.holds_the_body })

-- EXPANSION
module _ (file lent : List ℕ) (m n : ℕ) (bytes output : List ℕ) (l : ℕ) where
  -- what an expansion has done that replies, in the state of the file
  done : (expansion_query file lent m n bytes output).reply ≡ result l
      → ExpansionReplied file lent m n bytes output l × ExpansionWritten file m n bytes output (expand_writes file lent m n bytes output) l
  done e =
      let w = (output-written file lent m n bytes output l).0 e in
      let s = state_of file in
      let (room, obeys) = accepted-obeys file lent w.state w.accepted in
      let (taken, long, front) = subst (λ (s : State). Taken s m n [] bytes w.term × (l ≡ length (expansion_bytes_of s w.term))
      × (take l (expand_writes file lent m n bytes output) ≡ expansion_bytes_of s w.term))
      (sym (state-of file lent w.state w.accepted)) (w.taken, w.length_true, w.front-true) in
      let (b, same) = taken-belongs s m n [] bytes w.term taken in
      let bytes-are = ap (expansion_bytes_of s) (sym same) in (
        record {
          room = room;
          obeys = obeys;
          belongs = b;
          length_true = long ∙ ap length bytes-are;
          in_limit = w.in_limit;
          in_output = w.in_output;
        },
        record { belongs = b; bytes_true = front ∙ bytes-are; rest_stays = w.back-stays },
      )

  -- where there is room, it replies
  back : ExpansionReplied file lent m n bytes output l → (expansion_query file lent m n bytes output).reply ≡ result l
  back r =
      let a = obeys-accepted file lent r.room r.obeys in
      let w = expansion_bytes_of (state_of file) (term_in (state_of file) m n bytes r.belongs) in
      let long : l ≡ length w = r.length_true in
      let fits : unless_longer w (length output) ≡ result w = rw (le-ltb expansion_bytes (length w) (omega (arith, r.in_limit)), le-ltb (length output) (length w) (omega (arith, r.in_output))) in
      ap (λ (x : ExpansionAnswer). x.reply) (L.expansion-query file lent (state_of file) a m n bytes output r.belongs)
      ∙ ap (λ (x : Outcome (List ℕ)). and_then x λ w. result (length w)) fits ∙ ap result (sym long)

  expansion-exactly : ((expansion_query file lent m n bytes output).reply ≡ result l) ↔ ExpansionReplied file lent m n bytes output l
  expansion-exactly = (λ e. (done e).0, back)

  written_then : expand_tells file lent m n bytes output ≡ result l → ExpansionWritten file m n bytes output (expand_writes file lent m n bytes output) l
  written_then e = (done (sym (expand-told file lent m n bytes output) ∙ e)).1

-- DEMAND 2
pub demand-2 : Demand2
demand-2 =
    record {
      accepts =
          λ file lent room. (
            λ (k, e). (accepted-obeys file lent (state_of file) (check-accepted file lent k e).0).1,
            λ o. (length (state_of file).definitions, accepted-told file lent (state_of file) (obeys-accepted file lent room o)),
          );
      refuses = λ file lent c p. via (check-told file lent) (check-refused file lent c p);
      what_fields_add = fields-add;
      every_card_byte =
          λ file lent k e g i l j.
          let (a, n) = check-accepted file lent k e in
          card-byte file lent (state_of file) a g i (subst (λ (k : ℕ). g < k) (sym n) l) j;
      query_cards = λ file lent. record { level_cards = λ m levels bytes. refl; alike_cards = λ g h. refl; body_cards = λ g. refl; expansion_cards = λ m n bytes output. refl };
      counted = λ file lent k e. sym (check-accepted file lent k e).1;
      level_replied = λ file lent m levels bytes l. via (level-told file lent m levels bytes) (level-exactly file lent m levels bytes l);
      alike_replied = λ file lent g h b. via (alike-told file lent g h) (alike-exactly file lent g h b);
      body_replied = λ file lent g part. via (body-told file lent g) (body-exactly file lent g part);
      expansion_replied = λ file lent m n bytes output l. via (expand-told file lent m n bytes output) (expansion-exactly file lent m n bytes output l);
      expansion_written = written_then;
      level_refused =
          λ file lent m levels bytes c p. via (level-told file lent m levels bytes) (queries-refused file lent _ c p (refusals.level_refused file lent m levels bytes c p));
      alike_refused = λ file lent g h c p. via (alike-told file lent g h) (queries-refused file lent _ c p (refusals.alike_refused file lent g h c p));
      body_refused = λ file lent g c p. via (body-told file lent g) (queries-refused file lent _ c p (refusals.body_refused file lent g c p));
      expansion_refused =
          λ file lent m n bytes output c p.
          via (expand-told file lent m n bytes output) (queries-refused file lent _ c p (refusals.expansion_refused file lent m n bytes output c p));
      equal_cards =
          λ file₁ lent₁ file₂ lent₂ room₁ room₂ o₁ o₂ m ended same.
          let a₁ = obeys-accepted file₁ lent₁ room₁ o₁ in
          let a₂ = obeys-accepted file₂ lent₂ room₂ o₂ in
          equal-memory file₁ lent₁ file₂ lent₂ (length (state_of file₁).definitions) (length (state_of file₂).definitions)
          (ap (λ (o : Outcome State). and_then o λ s. result (length s.definitions)) a₁) (ap (λ (o : Outcome State). and_then o λ s. result (length s.definitions)) a₂)
          (state_of file₁) (state_of file₂) (by-fields file₁ lent₁ (state_of file₁) a₁) (by-fields file₂ lent₂ (state_of file₂) a₂)
          o₁.fields o₂.fields o₁.laid_out o₂.laid_out m ended same;
    }
