-- The causes over the store are the first seven of the rules, in their order.
use borrow.Author.Tests.{leb-false, lt-ltb, ltb-true}
use mathlib.Core.Bool.{◌||◌, false, true}
use mathlib.Core.List.{List, [], ◌∷◌}
use mathlib.Core.Path.{◌∙◌, ◌≡◌, ap, ap₂, refl, subst, sym}
use Prim.Native.Nat.{ℕ, ◌+◌, ◌≤◌, ◌<◌}
use native.Mathlib.Omega.{arith}
use lib.Dec.{leb}
use lib.ListN.{drop, length, length-append, take}
use Rattle.theory.specs.Lists.{any}
use Rattle.theory.proofs.Lists.{or-false}
use Rattle.rules.specs.Bytes.{name, sized, write_all, ◌▸◌}
use Rattle.rules.specs.Expression.{expression, over_arity, over_limit}
use Rattle.rules.specs.Field.{Field, Substitution, instance, write_field}
use Rattle.rules.specs.Instance.{arity_in, source, substitution_for}
use Rattle.rules.specs.Judge.{Cause, causes, instance_miscounted, instance_over_limit, instance_unknown, not_ended, out_of_order, too_many_definitions, wrong_substitution}
use Rattle.rules.specs.State.{State, params_of}
use Rattle.laws.proofs.Causes.{NoneHolds}
use Rattle.laws.proofs.Expressions.{expression-trip}
use Rattle.worlds.specs.Rows.{Row}
use Rattle.tokens.specs.Token.{number_at}
use Rattle.fields.specs.Substitution.{next_substitution, part}
use Rattle.fields.specs.declared.Parts.TheVariants.{Instance}
use Rattle.agree.specs.Parts.{SubstitutionsAt}
use Rattle.agree.proofs.Positions.{length_part}
use Rattle.context.specs.Parts.{part as part', place_of}
use Rattle.context.specs.Entries.{codes_of}
use Rattle.store.specs.declared.Store.{Store}
use Rattle.store.specs.declared.Facts.{Facts}
use Rattle.context.specs.declared.Counts.{Counts}
use Rattle.resolve.proofs.Numbers.{declarations_of}
use Rattle.entering.specs.Written.{written_at}
use Rattle.judge_plain.specs.Causes.{early}
use Rattle.judge_plain.specs.Judges.{cause_number}
use Rattle.judge_plain.specs.declared.Phase.{Phase}
use Rattle.judge_plain.proofs.Lifted.{order-law}
use Rattle.standing.specs.Standing.{AtField, Standing}
use Rattle.instance_names.specs.Causes.{NameCauses, first_causes, first_number, name_causes, site}
use Rattle.instance_names.specs.Looking.{LooksEach}
use Rattle.instance_names.specs.Names.{Agrees, NamesJudged, NamesRight}
use Rattle.instance_names.specs.Sites.{miscounted_among, unknown_among, is_ended, over_limits, repeated_from, starts, undeclared_in}
use Rattle.instance_names.specs.declared.Site.{Site}
use Rattle.instance_names.proofs.InOrder.{Same, first-after, first_of, none-numbered, same_first}
use Rattle.instance_names.proofs.Itself.{counted-law, known-law, wrong-law}
use Rattle.instance_names.proofs.Modules.{clashes-law, missing-law}
use Rattle.instance_names.proofs.Noted.{Noted, noted-each}
use Rattle.instance_names.proofs.Over.{over-law}

-- the substitutions take, in the file, the bytes that the rules write for them
written-length : (file : List ℕ) (end : ℕ) → end ≤ length file → (ss : List Substitution) (at : ℕ) → SubstitutionsAt file at end ss
    → at + length (write_all (name ▸ sized expression) ss) ≡ end
written-length file end whole [] at h = omega arith
written-length file end whole (y ∷ ss) at (e, q, r, h) =
    let l = number_at file (at + 2) in
    let rest = written-length file end whole ss (next_substitution file at) h in
    let same : expression.write y.1 ≡ part file (at + 4) l = (expression-trip.write_read (part file (at + 4) l) y.1 q).1 in
    let size : length (expression.write y.1) ≡ l = ap length same ∙ length_part file (at + 4) l (omega arith) in
    let head : length ((name ▸ sized expression).write y) ≡ 4 + length (expression.write y.1) = omega arith in
    let both = length-append ((name ▸ sized expression).write y) (write_all (name ▸ sized expression) ss) in
    omega arith

-- so they stand behind all that was read before
behind : (n p m : ℕ) (ss : List Substitution) → length (write_field (instance n p m ss)) ≡ 9 + length (write_all (name ▸ sized expression) ss)
behind n p m ss = omega arith

-- where none of the first causes holds the module instanced is one
pub source-below : (file names : List ℕ) (facts : List Facts) (contexts orders heads : List ℕ) (phase : Phase) (definitions : ℕ) (x : Site) (n cause : ℕ)
    → cause ≡ first_number (first_causes file names facts contexts orders heads phase definitions x n) → cause ≡ 0 → x.source < x.modules
unfolding first_causes
source-below file names facts contexts orders heads phase definitions x n cause e z =
    let clear = none-numbered (first_causes file names facts contexts orders heads phase definitions x n) tt (sym e ∙ z) in
    omega (arith, leb-false x.modules x.source clear.1.1.0)

module _ (file : List ℕ) (v : Store) (c : Counts) (phase : Phase) (words : List ℕ) (n p m k at : ℕ) (refs : List ℕ)
    (fs : List Field) (s : State) (rs : List Row) (ss : List Substitution) (st : Standing file fs s rs v c phase refs words)
    (atf : AtField file s (Instance n p m k at) (instance n p m ss)) where
  abbrev here : Site
  here = site v.heads c.modules p m k at

  -- the substitutions told of are those of the field
  told : (length ss ≡ k) × SubstitutionsAt file at atf.end ss
  told = go atf.tells
    where
      field-same : (us : List Substitution) → instance n p m ss ≡ instance n p m us → us ≡ ss
      field-same us e = cc

      go : (us : List Substitution) × (length us ≡ k) × SubstitutionsAt file at atf.end us × (instance n p m ss ≡ instance n p m us)
          → (length ss ≡ k) × SubstitutionsAt file at atf.end ss
      go (us, a, b, e) = let q = field-same us e in (subst (λ (l : List Substitution). length l ≡ k) q a, subst (SubstitutionsAt file at atf.end) q b)

  starts-behind : s.bytes ≤ at
  starts-behind = omega (arith, atf.ends, behind n p m ss, written-length file atf.end atf.inside ss at told.1)

  law-4 : early phase 6 ≡ out_of_order s.phase (instance n p m ss)
  law-4 = order-law phase s st.phase (instance n p m ss)

  law-5 : over_limits file v.names v.facts v.contexts v.orders v.heads here c.definitions ≡ instance_over_limit s p (source s m) ss
  law-5 = over-law v c s st.holds st.good p m k at file atf.end atf.inside ss told.0 told.1

  law-7 : leb here.modules here.source ≡ not_ended s m
  law-7 = missing-law v c s st.holds p m k at

  ended : leb here.modules here.source ≡ false → is_ended here ≡ true
  ended e = lt-ltb here.source here.modules (leb-false here.modules here.source e)

  abbrev told-causes : List Cause
  told-causes = take 7 (causes s (instance n p m ss))

  -- the first four
  same-four : Same (first_causes file v.names v.facts v.contexts v.orders v.heads phase c.definitions here n) (take 4 told-causes)
  unfolding first_causes
  same-four = (
    refl,
    law-4,
    λ _. (
      refl,
      law-5,
      λ _. (
        refl,
        law-7,
        λ e.
            (refl, clashes-law v c s st.holds p m k at (ended e) n, λ _. tt),
      ),
    ),
  )

  module _ (cause : ℕ) (first : cause ≡ first_number (first_causes file v.names v.facts v.contexts v.orders v.heads phase c.definitions here n)) where
    first-four : cause ≡ first_number (take 4 told-causes)
    first-four = first ∙ ap cause_number (same_first (first_causes file v.names v.facts v.contexts v.orders v.heads phase c.definitions here n) (take 4 told-causes) same-four)

    refused : (cause ≡ 0 → ⊥) → NamesRight file fs s v c n p m k at ss cause refs refs
    refused h = record {
      cause = first-four ∙ first_of 4 told-causes (λ z. h (first-four ∙ z));
      noted = λ i l. refl;
      size = refl;
      found = λ z. absurd (h z);
      written = λ z. absurd (h z);
    }

    module _ (None-first : cause ≡ 0) (r : ℕ) (refs' : List ℕ) (j : NameCauses file v.names v.facts v.contexts v.heads here refs refs' r) where
      clear : NoneHolds (take 4 told-causes)
      clear = none-numbered (take 4 told-causes) tt (sym first-four ∙ None-first)

      is-ended : is_ended here ≡ true
      is-ended = ended (law-7 ∙ clear.1.1.0)

      no-over : any (λ (y : Substitution). over_arity (p + arity_in (source s m) y.0) || over_limit y.1) ss ≡ false
      no-over =
          (or-false (too_many_definitions s (length (source s m).definitions) || over_arity p || any (λ g. over_arity (p + params_of s g)) (source s m).definitions)
          (any (λ (y : Substitution). over_arity (p + arity_in (source s m) y.0) || over_limit y.1) ss) clear.1.0).1

      looked : Noted v c s st.holds fs st.declares st.origins st.good p m k at file atf.bytes atf.end atf.inside ss at refs refs' j.u j.w
      looked =
          noted-each v c s st.holds fs st.declares st.origins st.good p m k at file atf.bytes atf.end atf.inside ss at told.1 no-over refs refs'
          (omega (arith, atf.short, st.refs_size)) j.u j.w
          (subst (λ (i : ℕ). LooksEach file v.names v.facts v.contexts v.heads here (starts i file at) refs refs' j.u j.w) (sym told.0) j.looks)

      law-9 : (j.u || unknown_among file v.names v.facts v.contexts v.heads here (codes_of v here.source)) ≡ instance_unknown s p (source s m) ss
      law-9 =
          ap₂ ◌||◌ looked.cause-9
          (known-law v c s st.holds fs st.declares st.origins st.good p m k at file atf.end atf.inside ss told.0 told.1 is-ended)

      law-10 : (j.w || miscounted_among file v.names v.facts v.contexts v.heads here (codes_of v here.source)) ≡ instance_miscounted s (source s m) ss
      law-10 =
          ap₂ ◌||◌ looked.cause-10
          (counted-law v c s st.holds fs st.declares st.origins st.good p m k at file atf.end atf.inside ss told.0 told.1 is-ended)

      law-11 : (undeclared_in file v.names v.facts v.contexts v.heads here k at || repeated_from file k at) ≡ wrong_substitution (source s m) ss
      law-11 = wrong-law v c s st.holds fs st.declares st.origins st.good p m k at file atf.end atf.inside ss told.0 told.1 is-ended

      -- and the other three
      same_names : Same (name_causes file v.names v.facts v.contexts v.heads here j.u j.w) (drop 4 told-causes)
      unfolding name_causes
      same_names = (
        refl,
        law-9,
        λ _. (
          refl,
          law-10,
          λ _.
              (refl, law-11, λ _. tt),
        ),
      )

      unknown-none : r ≡ 0 → j.u ≡ false
      unfolding name_causes
      unknown-none z =
          (or-false j.u (unknown_among file v.names v.facts v.contexts v.heads here (codes_of v here.source))
          (none-numbered (name_causes file v.names v.facts v.contexts v.heads here j.u j.w) tt (sym j.cause ∙ z)).0).0

      accepted : NamesRight file fs s v c n p m k at ss r refs refs'
      accepted = record {
        cause = j.cause ∙ ap cause_number (same_first (name_causes file v.names v.facts v.contexts v.heads here j.u j.w) (drop 4 told-causes) same_names)
            ∙ sym (ap cause_number (first-after 4 told-causes clear));
        noted = λ i l. looked.before i (omega (arith, starts-behind));
        size = looked.size;
        found = λ z. ltb-true here.source here.modules is-ended;
        written = λ z i.
            subst (λ (e : ℕ). Agrees file refs' (declarations_of fs) e s (written_at k file at i) (substitution_for ss i)) atf.ends
            (subst (λ (l : ℕ). Agrees file refs' (declarations_of fs) atf.end s (written_at l file at i) (substitution_for ss i)) told.0 (looked.written (unknown-none z) i));
      }

pub site-there : (heads : List ℕ) (modules p m k at q : ℕ) → q ≡ place_of m (part' heads 0 modules)
    → record { params = p; count = k; at = at; source = q; modules = modules } ≡ site heads modules p m k at
site-there heads modules p m k at q e = rw e

-- what the code has at its two ends
module _ (file : List ℕ) (v : Store) (c : Counts) (phase : Phase) (n p m k at : ℕ) (refs : List ℕ) (x : Site) (cause : ℕ)
    (is-site : x ≡ site v.heads c.modules p m k at) (first : cause ≡ first_number (first_causes file v.names v.facts v.contexts v.orders v.heads phase c.definitions x n)) where
  first' : cause ≡ first_number (first_causes file v.names v.facts v.contexts v.orders v.heads phase c.definitions (site v.heads c.modules p m k at) n)
  first' = first ∙ ap (λ (y : Site). first_number (first_causes file v.names v.facts v.contexts v.orders v.heads phase c.definitions y n)) is-site

  pub judged-first : (cause ≡ 0 → ⊥) → (words : List ℕ) → NamesJudged file v c phase words n p m k at cause refs refs
  judged-first h words = record {
    right = λ fs s rs ss st atf. refused file v c phase words n p m k at refs fs s rs ss st atf cause first' h;
  }

  pub judged-names : (r : ℕ) (refs' : List ℕ) → cause ≡ 0 → NameCauses file v.names v.facts v.contexts v.heads x refs refs' r
      → (words : List ℕ) → NamesJudged file v c phase words n p m k at r refs refs'
  judged-names r refs' z j words = record {
    right = λ fs s rs ss st atf.
        accepted file v c phase words n p m k at refs fs s rs ss st atf cause first' z r refs'
        (subst (λ (y : Site). NameCauses file v.names v.facts v.contexts v.heads y refs refs' r) is-site j);
  }
