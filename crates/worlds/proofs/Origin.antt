-- Where texts and substitutes come from: the text of a definition is what its original's field writes, resolved in the state before that
-- field; a link is an INSTANCE field, its substitutes resolved in the state before it.
use mathlib.Core.List.{List, [], ◌++◌, ◌∷◌, append_assoc, append-nil}
use mathlib.Core.Path.{◌∙◌, ◌≡◌, ap, refl, subst, sym}
use lib.ListN.{get_or-append, get_or, length, length-append, length-map, take}
use lib.Seq.{get_or-append-add, take-append-le, take-append_seam}
use native.Mathlib.Omega.{arith}
use Prim.Native.Nat.{◌<◌, suc, zero, ℕ}
use Rattle.laws.specs.Lawful.{adds}
use Rattle.rules.specs.Add.{add, own_one}
use Rattle.rules.specs.Expression.{Expression}
use Rattle.rules.specs.Field.{Field, Substitution, assume, begin_module, declare_constant, declare_variable, definition, end_module, extends, instance, theorem}
use Rattle.rules.specs.Instance.{brought_all, brought_one, source}
use Rattle.rules.specs.State.{Added, State, meanings, no_definition, start}
use Rattle.theory.proofs.Lists.{append-all, map-all}
use Rattle.theory.specs.Lists.{All}
use Rattle.worlds.proofs.Fields.{brought-rows, worlds-add, worlds-start}
use Rattle.worlds.proofs.Invariant.{Worlds, get_d-more, length-meanings}
use Rattle.worlds.proofs.Modules.{source_ok}
use Rattle.worlds.specs.Rows.{Row, brought_row, brought_rows, link_of, new_rows, no_row, rows_after, rows_of, source_of, world_of}
use Rattle.worlds.specs.World.{In, Link}

-- the state before field k
abbrev pub state_at : List Field → ℕ → State
state_at fs k = adds start (take k fs)

-- the definition that a definition field added
pub record OwnAt (fs : List Field) (d : Added) : Type 0 where
  pub index : ℕ
  pub name : ℕ
  pub params : ℕ
  pub expression : Expression
  pub there : index < length fs
  pub field : get_or fs index end_module ≡ definition name params expression
  pub added : d ≡ own_one (state_at fs index) name params expression

-- an INSTANCE field
pub record LinkAt (fs : List Field) (l : Link) : Type 0 where
  pub index : ℕ
  pub name : ℕ
  pub params : ℕ
  pub module-name : ℕ
  pub substitutions : List Substitution
  pub there : index < length fs
  pub field : get_or fs index end_module ≡ instance name params module-name substitutions
  pub link : l ≡ link_of (state_at fs index) params module-name substitutions

abbrev pub FromFields : List Field → List Added → List Row → Type 0
FromFields fs ds rs = (D : ℕ) → D < length ds → OwnAt fs (get_or ds (source_of rs D) no_definition) × All (LinkAt fs) (world_of rs D)

state-stays : (fs gs : List Field) (k : ℕ) → k < length fs → state_at fs k ≡ state_at (fs ++ gs) k
state-stays fs gs k h = ap (adds start) (sym (take-append-le k fs gs (omega arith)))

state-last : (fs : List Field) (f : Field) → adds start fs ≡ state_at (fs ++ (f ∷ [])) (length fs)
state-last fs f = ap (adds start) (sym (take-append_seam fs (f ∷ [])))

field-last : (fs : List Field) (f : Field) → get_or (fs ++ (f ∷ [])) (length fs) end_module ≡ f
field-last fs f = ap (λ (j : ℕ). get_or (fs ++ (f ∷ [])) j end_module) (omega arith) ∙ get_or-append-add fs (f ∷ []) 0 end_module

own-more : (fs gs : List Field) (d : Added) → OwnAt fs d → OwnAt (fs ++ gs) d
own-more fs gs d o =
    record {
      index = o.index;
      name = o.name;
      params = o.params;
      expression = o.expression;
      there = rw (length-append fs gs) (omega (arith, o.there));
      field = get_or-append fs gs end_module o.index o.there ∙ o.field;
      added = o.added ∙ ap (λ (s : State). own_one s o.name o.params o.expression) (state-stays fs gs o.index o.there);
    }

link-more : (fs gs : List Field) (l : Link) → LinkAt fs l → LinkAt (fs ++ gs) l
link-more fs gs l o =
    record {
      index = o.index;
      name = o.name;
      params = o.params;
      module-name = o.module-name;
      substitutions = o.substitutions;
      there = rw (length-append fs gs) (omega (arith, o.there));
      field = get_or-append fs gs end_module o.index o.there ∙ o.field;
      link = o.link ∙ ap (λ (s : State). link_of s o.params o.module-name o.substitutions) (state-stays fs gs o.index o.there);
    }

-- a definition's original and its chain
abbrev FromRow : List Field → List Added → Row → Type 0
FromRow fs ds r = OwnAt fs (get_or ds r.source no_definition) × All (LinkAt fs) r.world

module _ (fs : List Field) (rs : List Row) (w : Worlds (adds start fs) rs) (h : FromFields fs (adds start fs).definitions rs) (f : Field) where
  counted : length rs ≡ length (adds start fs).definitions
  counted = w.book.counted ∙ length-meanings (adds start fs)

  source-there : (g : ℕ) → g < length rs → source_of rs g < length (adds start fs).definitions
  source-there g l = subst (λ (n : ℕ). source_of rs g < n) (length-meanings (adds start fs)) (w.book.rows g (omega (arith, w.book.counted))).1

  -- the row of a definition that was there
  old : (new : List Added) (g : ℕ) → g < length rs → FromRow (fs ++ (f ∷ [])) ((adds start fs).definitions ++ new) (get_or rs g no_row)
  old new g l =
      let o = h g (omega (arith, counted)) in (
        subst (OwnAt (fs ++ (f ∷ []))) (sym (get_or-append (adds start fs).definitions new no_definition (source_of rs g) (source-there g l))) (own-more fs (f ∷ []) _ o.0),
        map-all (LinkAt fs) (LinkAt (fs ++ (f ∷ []))) (link-more fs (f ∷ [])) (world_of rs g) o.1,
      )

  origins-new : (new : List Added) (us : List Row) → length us ≡ length new
      → ((i : ℕ) → i < length us → FromRow (fs ++ (f ∷ [])) ((adds start fs).definitions ++ new) (get_or us i no_row))
      → FromFields (fs ++ (f ∷ [])) ((adds start fs).definitions ++ new) (rs ++ us)
  origins-new new us q k D l =
      get_d-more (λ D r. FromRow (fs ++ (f ∷ [])) ((adds start fs).definitions ++ new) r) rs us no_row (old new) k D
      (omega (arith, length-append rs us, length-append (adds start fs).definitions new, counted))

  origins-plain : FromFields (fs ++ (f ∷ [])) ((adds start fs).definitions ++ []) (rs ++ [])
  origins-plain = origins-new [] [] refl (λ i l. absurd (omega arith))

origins-add : (fs : List Field) (rs : List Row) → Worlds (adds start fs) rs → FromFields fs (adds start fs).definitions rs → (f : Field)
    → FromFields (fs ++ (f ∷ [])) (add (adds start fs) f).definitions (rows_after (adds start fs) rs f)
origins-add fs rs w h (begin_module n) = origins-plain fs rs w h (begin_module n)
origins-add fs rs w h (extends m ms) = origins-plain fs rs w h (extends m ms)
origins-add fs rs w h (declare_constant n k) = origins-plain fs rs w h (declare_constant n k)
origins-add fs rs w h (declare_variable n) = origins-plain fs rs w h (declare_variable n)
origins-add fs rs w h (definition n p e) =
    origins-new fs rs w h (definition n p e) (own_one s n p e ∷ []) (new_rows s rs (definition n p e)) refl row
  where
    s : State
    s = adds start fs

    row : (i : ℕ) → i < 1 → FromRow (fs ++ (definition n p e ∷ [])) (s.definitions ++ (own_one s n p e ∷ [])) (get_or (new_rows s rs (definition n p e)) i no_row)
    row zero l = (
      record {
        index = length fs;
        name = n;
        params = p;
        expression = e;
        there = rw (length-append fs (definition n p e ∷ [])) (omega arith);
        field = field-last fs (definition n p e);
        added =
            ap (λ (j : ℕ). get_or (s.definitions ++ (own_one s n p e ∷ [])) j no_definition) (omega arith) ∙ get_or-append-add s.definitions (own_one s n p e ∷ []) 0 no_definition
            ∙ ap (λ (s : State). own_one s n p e) (state-last fs (definition n p e));
      },
      tt,
    )
    row (suc i) l = absurd (omega arith)
origins-add fs rs w h (instance n p m ss) =
    origins-new fs rs w h (instance n p m ss) (brought_all s n p (source s m) ss) (brought_rows s rs p m ss)
    (length-map gs (λ g. brought_row (link_of s p m ss) (get_or rs g no_row)) ∙ sym (length-map gs (brought_one s n p (source s m) ss)))
    (brought-rows s rs p m ss (FromRow (fs ++ (instance n p m ss ∷ [])) (s.definitions ++ brought_all s n p (source s m) ss)) from)
  where
    s : State
    s = adds start fs

    gs : List ℕ
    gs = (source s m).definitions

    from : (g : ℕ) → In g gs → FromRow (fs ++ (instance n p m ss ∷ [])) (s.definitions ++ brought_all s n p (source s m) ss) (brought_row (link_of s p m ss) (get_or rs g no_row))
    from g i =
        let d = (source_ok (meanings s) w.runs s m w.ended).known g i in
        let o = old fs rs w h (instance n p m ss) (brought_all s n p (source s m) ss) g (omega (arith, w.book.counted)) in (
          o.0,
          append-all (LinkAt (fs ++ (instance n p m ss ∷ []))) (world_of rs g) (link_of s p m ss ∷ []) o.1 (
            record {
              index = length fs;
              name = n;
              params = p;
              module-name = m;
              substitutions = ss;
              there = rw (length-append fs (instance n p m ss ∷ [])) (omega arith);
              field = field-last fs (instance n p m ss);
              link = ap (λ (s : State). link_of s p m ss) (state-last fs (instance n p m ss));
            },
            tt,
          ),
        )
origins-add fs rs w h end_module = origins-plain fs rs w h end_module
origins-add fs rs w h (assume e) = origins-plain fs rs w h (assume e)
origins-add fs rs w h (theorem e) = origins-plain fs rs w h (theorem e)

adds-snoc : (fs : List Field) (s : State) (f : Field) → adds s (fs ++ (f ∷ [])) ≡ add (adds s fs) f
adds-snoc [] s f = refl
adds-snoc (g ∷ fs) s f = adds-snoc fs (add s g) f

-- What holds of the first fields of a file holds of all, if each field more keeps it.
origins-adds : (fs gs : List Field) (rs : List Row) → Worlds (adds start gs) rs → FromFields gs (adds start gs).definitions rs
    → FromFields (gs ++ fs) (adds (adds start gs) fs).definitions (rows_of (adds start gs) rs fs)
origins-adds [] gs rs w h = subst (λ (l : List Field). FromFields l (adds start gs).definitions rs) (sym (append-nil gs)) h
origins-adds (f ∷ fs) gs rs w h =
    let e = adds-snoc gs start f in
    let us = rows_after (adds start gs) rs f in
    subst (λ (l : List Field). FromFields l (adds (add (adds start gs) f) fs).definitions (rows_of (add (adds start gs) f) us fs)) (append_assoc gs (f ∷ []) fs)
    (subst (λ (s : State). FromFields ((gs ++ (f ∷ [])) ++ fs) (adds s fs).definitions (rows_of s us fs)) e
    (origins-adds fs (gs ++ (f ∷ [])) us (subst (λ (s : State). Worlds s us) (sym e) (worlds-add (adds start gs) rs f w))
    (subst (λ (s : State). FromFields (gs ++ (f ∷ [])) s.definitions us) (sym e) (origins-add gs rs w h f))))

-- After any fields, every text and every link of every world comes from its field.
pub origins : (fs : List Field) → FromFields fs (adds start fs).definitions (rows_of start [] fs)
origins fs = origins-adds fs [] [] worlds-start (λ D l. absurd (omega arith))
