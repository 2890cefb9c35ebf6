-- From the string of a query's term to its reply.
use Rattle.std.specs.Prelude.{Result}
use mathlib.Core.Bool.{Bool, false, true}
use mathlib.Core.List.{List, []}
use mathlib.Core.Logic.{inl}
use mathlib.Core.Option.{some}
use mathlib.Core.Path.{◌∙◌, ◌≡◌, ap, refl, subst, sym}
use lib.ListN.{length}
use native.Mathlib.Omega.{arith}
use Prim.Native.Nat.{◌+◌, ◌<◌, ◌≤◌, ℕ}
use Rattle.limits.specs.Limits.{file_bytes, max_arity, max_definitions, max_nesting}
use Rattle.laws.proofs.Replacing.{known-below}
use Rattle.laws.proofs.Sound.{length-templates}
use Rattle.rules.specs.Field.{Field}
use Rattle.rules.specs.Query.{expansion_bytes_of, unless_longer}
use Rattle.rules.specs.State.{State, templates_of}
use Rattle.context.specs.Entries.{codes_of}
use Rattle.store.specs.declared.Store.{Store}
use Rattle.context.specs.declared.Counts.{Counts}
use Rattle.judge_plain.specs.declared.Phase.{Phase}
use Rattle.resolve.proofs.Numbers.{declarations_of}
use Rattle.standing.specs.Standing.{Standing, itselves}
use Rattle.strings.proofs.Reading.{stands}
use Rattle.strings.specs.Read.{string_at}
use Rattle.std.specs.Prelude.{None, Option, Some}
use Rattle.symbols.specs.Spell.{spell}
use Rattle.symbols.specs.Symbol.{strip}
use Rattle.theory.specs.Expand.{arities_of}
use Rattle.theory.specs.Term.{Term, WellFormed}
use Rattle.tokens.specs.Expr.{Expr, expr_at, found}
use Rattle.unfolding.proofs.AllRight.{RightBelow}
use Rattle.unfolding.proofs.FromStanding.{standing-ready, standing-room}
use Rattle.unfolding.proofs.SameLaws.{same_refl, too_long}
use Rattle.unfolding.proofs.Whole.{length_whole}
use Rattle.unfolding.specs.CalleeTerm.{sense_of}
use Rattle.unfolding.specs.InWorld.{term_in}
use Rattle.unfolding.specs.Sense.{Right, Stands}
use Rattle.spelling.proofs.Narrowing.{narrow-formed}
use Rattle.spelling.specs.Strings.{LooksBelow, QueryString, Spells, by_context, shapes_of}
use Rattle.spelling.specs.Written.{place_of}
use Rattle.templates.specs.Taking.{work_bytes}
use Rattle.templates.specs.Shaped.{DefinitionsShaped}
use Rattle.templates.specs.Told.{Told}
use Rattle.worlds.proofs.Uses.{uses-all}
use Rattle.worlds.specs.Rows.{Row}
use Rattle.expanding.proofs.Ends.{expansion-bytes}
use Rattle.expanding.proofs.Passing.{held-near}
use Rattle.expanding.proofs.Written.{over-bytes}
use Rattle.expanding.specs.Asks.{RepliesTo}
use Rattle.expanding.specs.Held.{Expands, Long, StringReplies}
use Rattle.expanding.specs.Reports.{Reports}
use Rattle.refusals.specs.declared.Refusal.{Refusal}
use Rattle.refusals.specs.Outcomes.{refused}

module _ (file refs : List ℕ) (v : Store) (declared : List ℕ) (n : ℕ) where
  -- 18, "expansion longer than .. 65,535 bytes"
  long-reply : (x : Told file refs v declared n) (p : ℕ) (t : Term) → WellFormed (arities_of (templates_of x.state)) p 0 t → Long x.state p t → (out : List ℕ)
      → Reports (unless_longer (expansion_bytes_of x.state t) (length out)) (refused 18 0) out out
  long-reply x p t w l out =
      let k : 65535 < length (expansion_bytes_of x.state t) = rw (length_whole x.state x.ready.sound p t w) l in
      (over-bytes (expansion_bytes_of x.state t) out k, refl)

  module _ (shapes a : List ℕ) (len : ℕ) (a' : List ℕ) (y : Option ℕ) (expands : Expands file refs v declared n shapes a len a' y) where
    pub string-long : y ≡ None → (out : List ℕ) → StringReplies file refs v declared n shapes a len (refused 18 0) out out
    string-long e out =
        record { reply = λ x fit right p t w h. long-reply x p t w ((expands.expanded x fit right p t h).no e) out }

    pub string-whole : (q : ℕ) → y ≡ Some q → length a' ≡ length a → (r : Result ℕ Refusal) (out out' : List ℕ)
        → Reports (unless_longer (strip (string_at a' 0 q)) (length out)) r out out' → StringReplies file refs v declared n shapes a len r out out'
    string-whole q e same r out out' reports =
        record {
          reply = λ x fit right p t w h.
              let z = (expands.expanded x fit right p t h).yes q e in
              let read : string_at a' 0 q ≡ spell (shapes_of shapes) z.held.term
              = stands a' 0 (spell (shapes_of shapes) z.held.term) q z.held.spelt (omega (arith, expands.within q e))
              (held-near file refs v declared n x shapes p t a' q z.held) in
              let bytes : strip (string_at a' 0 q) ≡ expansion_bytes_of x.state t
              = ap strip read ∙ sym (expansion-bytes x.state x.ready.sound (shapes_of shapes) p t z.held.term w z.held.same z.held.stands z.clear) in
              subst (λ (b : List ℕ). Reports (unless_longer b (length out)) r out out') bytes reports;
        }

-- the query's term, from its string on
module _ (file refs : List ℕ) (v : Store) (c : Counts) (m : ℕ) (expr shapes a : List ℕ) (room : ℕ) (fits : Bool) (len : ℕ)
    (short : length file ≤ file_bytes)
    (shaped : DefinitionsShaped file refs v v.declared c.declarations c.definitions shapes)
    (spelt : QueryString expr v.names v.facts (codes_of v m) v.declared shapes a room fits len) where
  module _ (fs : List Field) (s : State) (rs : List Row) (p : Phase) (words : List ℕ) (standing : Standing file fs s rs v c p refs words) where
    told : Told file refs v v.declared c.declarations
    told =
        record {
          counts = c;
          state = s;
          rows = rs;
          decls = declarations_of fs;
          end = s.bytes;
          ready = standing-ready file fs s rs v c p refs words standing;
          room = standing-room file fs s rs v c p refs words standing;
          short = omega (arith, standing.inside);
          within = standing.within;
          depths = standing.depths;
        }

    module _ (t : Expr) (e : ℕ) (is_found : expr_at max_nesting expr 0 ≡ found t e)
        (low : LooksBelow (max_definitions + length (declarations_of fs)) (by_context v.names v.facts (codes_of v m)) t) (n : ℕ) (few : n ≤ max_arity)
        (w : WellFormed (arities_of (templates_of s)) n 0 (term_in (by_context v.names v.facts (codes_of v m)) (declarations_of fs) (place_of 0 0 itselves) t)) where
      term : Term
      term = term_in (by_context v.names v.facts (codes_of v m)) (declarations_of fs) (place_of 0 0 itselves) t

      known : (g k : ℕ) → arities_of (templates_of s) g ≡ some k → g < length s.definitions
      known g k e = omega (arith, known-below (templates_of s) g k e, length-templates [] s.definitions)

      right : RightBelow s (shapes_of shapes) c.definitions
      unfolding told
      right = shaped.right told (omega arith)

      its-stands : Stands (sense_of s (shapes_of shapes)) n term
      unfolding term
      its-stands =
          record {
            formed = w;
            calls = uses-all (Right (sense_of s (shapes_of shapes))) (arities_of (templates_of s)) n term (λ g k e. right g (omega (arith, known g k e, standing.holds.definitions))) w;
          }

      its-string : Spells (spell (shapes_of shapes) term) a room fits len
      unfolding term
      its-string =
          spelt.string (declarations_of fs) t e is_found low (omega (arith, standing.declares.few, standing.declares.counted)) standing.codes.named shaped.fit
          (narrow-formed (shapes_of shapes) (arities_of (templates_of s)) n
          (λ g k e. omega (arith, known g k e, standing.holds.definitions, standing.holds.sized.definitions)) (omega arith) term 0 w)

      short-reply : fits ≡ false → work_bytes ≤ room → (out : List ℕ)
          → Reports (unless_longer (expansion_bytes_of s term) (length out)) (refused 18 0) out out
      unfolding told term
      short-reply f big out =
          long-reply file refs v v.declared c.declarations told n term w
          (too_long (sense_of s (shapes_of shapes)) n term its-stands (inl (omega (arith, its-string.short f)))) out

      whole-reply : fits ≡ true → (r : Result ℕ Refusal) (out out' : List ℕ) → StringReplies file refs v v.declared c.declarations shapes a len r out out'
          → Reports (unless_longer (expansion_bytes_of s term) (length out)) r out out'
      unfolding told term
      whole-reply f r out out' replies =
          replies.reply told shaped.fit right n term w
          record { term = term; same = same_refl (sense_of s (shapes_of shapes)) term; stands = its-stands; spelt = (its-string.spelt f).0 }

  pub query-short : fits ≡ false → work_bytes ≤ room → (out : List ℕ) → RepliesTo file refs v c m expr (refused 18 0) out out
  unfolding term
  query-short f big out =
      record { reply = λ fs s rs p words standing t e is_found low n few w. short-reply fs s rs p words standing t e is_found low n few w f big out }

  pub query-whole : fits ≡ true → (r : Result ℕ Refusal) (out out' : List ℕ) → StringReplies file refs v v.declared c.declarations shapes a len r out out'
      → RepliesTo file refs v c m expr r out out'
  unfolding term
  query-whole f r out out' replies =
      record { reply = λ fs s rs p words standing t e is_found low n few w. whole-reply fs s rs p words standing t e is_found low n few w f r out out' replies }

  -- A string that fits is no longer than the memory.
  pub query-over : fits ≡ true → room < len → (out : List ℕ) → RepliesTo file refs v c m expr (refused 18 0) out out
  query-over f over out =
      record {
        reply = λ fs s rs p words standing t e is_found low n few w.
            absurd (let z = (its-string fs s rs p words standing t e is_found low n few w).spelt f in omega (arith, z.1));
      }
