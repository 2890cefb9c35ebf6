-- A text names only what its module declares, and so do the substitutes along its chain: in a world every declared name of the text has its
-- substitute, and tables of the declared names are enough.
use mathlib.Core.Bool.{false}
use mathlib.Core.List.{List, [], ◌++◌, ◌∷◌}
use mathlib.Core.Logic.{inl, inr}
use mathlib.Core.Option.{Option, none, some}
use mathlib.Core.Path.{◌∙◌, ◌≡◌, ap, refl, subst, sym}
use lib.Dec.{eqb}
use lib.ListN.{get_or-append, get_or, length, length-map}
use lib.Seq.{get_or-append-add}
use native.Mathlib.Omega.{arith}
use Prim.Native.Nat.{◌+◌, ◌<◌, suc, zero, ℕ}
use Rattle.laws.proofs.Accept.{Clears}
use Rattle.laws.specs.Lawful.{adds}
use Rattle.laws.proofs.Causes.{clear-field}
use Rattle.laws.proofs.Names.{all-numbers}
use Rattle.laws.proofs.Origins.{Among, In as Declares, Origins, here_in, in-more, no_fields, origins-add, source_in}
use Rattle.laws.proofs.Resolved.{kind-found}
use Rattle.rules.specs.Add.{add, after, brought_entries, extended_definitions, extended_module, own_one, with_more}
use Rattle.rules.specs.Field.{Field, Substitution, assume, begin_module, declare_constant, declare_variable, definition, end_module, extends, instance, theorem}
use Rattle.rules.specs.Instance.{brought_all, source, substitute}
use Rattle.rules.specs.Judge.{extended_context, judge}
use Rattle.rules.specs.State.{Added, Context, Module, Phase, State, begun, declares, defines, here, inside, meanings, module_named, no_definition, no_module, outside, resolve, same_name, start}
use Rattle.theory.proofs.Lists.{append-all, find-has, map-all, union-all}
use Rattle.theory.specs.Lists.{All, map_option, numbers_from, or_else, repeats, union}
use Rattle.theory.specs.Term.{Kind, Term, constant, variable}
use Rattle.worlds.proofs.Fields.{all_both, brought-rows, length-new, worlds-add, worlds-start}
use Rattle.worlds.proofs.Invariant.{IsOk, Worlds, get_d-more, length-meanings}
use Rattle.worlds.proofs.Modules.{extended-ok, source_ok}
use Rattle.worlds.proofs.Places.{all_in, in_all}
use Rattle.worlds.proofs.Resolved.{resolve-mentions, substitute-mentions}
use Rattle.worlds.proofs.Uses.{names_more, names_of}
use Rattle.worlds.specs.Rows.{Row, body_of, brought_row, brought_rows, link_of, new_rows, no_row, rows_after, rows_of, source_of, text_of, world_of}
use Rattle.worlds.specs.World.{AllDeclared, AnyName, Declared, DeclaredBy, In, Link, Names, SubstitutesDeclared, World}

-- more names declared at the outer end
declared-more : (N N' : Kind → ℕ → Type 0) → ((k : Kind) (x : ℕ) → N k x → N' k x) → (w : World) (k : Kind) (x : ℕ) → Declared N w k x → Declared N' w k x
declared-more N N' f [] k x h = f k x h
declared-more N N' f (l ∷ w) k x h = h

substitutes-more : (N N' : Kind → ℕ → Type 0) → ((k : Kind) (x : ℕ) → N k x → N' k x) → (w : World) → SubstitutesDeclared N w → SubstitutesDeclared N' w
substitutes-more N N' f [] h = tt
substitutes-more N N' f (l ∷ w) h =
    ((λ k x i. names_more (Declared N w) (Declared N' w) (declared-more N N' f w) (l.substitutes k x) (h.0 k x i)), substitutes-more N N' f w h.1)

all-declared-more : (N N' : Kind → ℕ → Type 0) → ((k : Kind) (x : ℕ) → N k x → N' k x) → (w : World) (t : Term) → AllDeclared N w t → AllDeclared N' w t
all-declared-more N N' f w t h = (names_more (Declared N w) (Declared N' w) (declared-more N N' f w) t h.0, substitutes-more N N' f w h.1)

-- one instance more at the outer end
module _ (N : Kind → ℕ → Type 0) (l : Link) (named : (k : Kind) (x : ℕ) → DeclaredBy l k x → Names N (l.substitutes k x)) where
  declared-outer : (w : World) (t : Term) → Names (Declared (DeclaredBy l) w) t → Names (Declared N (w ++ (l ∷ []))) t
  declared-outer [] t h = h
  declared-outer (k ∷ w) t h = h

  substitutes-outer : (w : World) → SubstitutesDeclared (DeclaredBy l) w → SubstitutesDeclared N (w ++ (l ∷ []))
  substitutes-outer [] h = (named, tt)
  substitutes-outer (k ∷ w) h = ((λ c x i. declared-outer w (k.substitutes c x) (h.0 c x i)), substitutes-outer w h.1)

  all-declared-outer : (w : World) (t : Term) → AllDeclared (DeclaredBy l) w t → AllDeclared N (w ++ (l ∷ [])) t
  all-declared-outer w t h = (declared-outer w t h.0, substitutes-outer w h.1)

-- what a row's text is among some definitions
abbrev row_text : List Added → Row → Term
row_text ds r = body_of (get_or ds r.source no_definition).meaning

-- a definition's text and chain name only what the context declares
abbrev pub Covered : State → List Row → Context → ℕ → Type 0
Covered s rs Γ g = AllDeclared (Declares Γ) (world_of rs g) (text_of s rs g)

pub record AllCovered (s : State) (rs : List Row) : Type 0 where
  pub all : (D : ℕ) → D < length rs → AllDeclared AnyName (world_of rs D) (text_of s rs D)
  pub current : All (Covered s rs (here s)) s.current.definitions
  pub ended : All (λ M. All (Covered s rs M.context) M.definitions) s.ended

module _ (s : State) (rs : List Row) (w : Worlds s rs) (c : AllCovered s rs) where
  there : (g : ℕ) → g < length (meanings s) → g < length rs
  there g l = omega (arith, w.book.counted)

  -- more definitions change nothing,
  row_stays : (N : Kind → ℕ → Type 0) (v : World → World) (new : List Added) (g : ℕ) → g < length rs → AllDeclared N (v (world_of rs g)) (text_of s rs g)
      → AllDeclared N (v (world_of rs g)) (row_text (s.definitions ++ new) (get_or rs g no_row))
  row_stays N v new g l h =
      let k : source_of rs g < length s.definitions = subst (λ (n : ℕ). source_of rs g < n) (length-meanings s) (w.book.rows g (omega (arith, w.book.counted))).1 in
      subst (λ (d : Added). AllDeclared N (v (world_of rs g)) (body_of d.meaning)) (sym (get_or-append s.definitions new no_definition (source_of rs g) k)) h

  -- nor do more rows
  stays : (N : Kind → ℕ → Type 0) (new : List Added) (us : List Row) (g : ℕ) → g < length rs → AllDeclared N (world_of rs g) (text_of s rs g)
      → AllDeclared N (world_of (rs ++ us) g) (row_text (s.definitions ++ new) (get_or (rs ++ us) g no_row))
  stays N new us g l h =
      subst (λ (r : Row). AllDeclared N r.world (row_text (s.definitions ++ new) r)) (sym (get_or-append rs us no_row g l)) (row_stays N (λ v. v) new g l h)

  -- a module's definitions, in a context that declares more
  module-stays : (new : List Added) (us : List Row) (Γ Γ' : Context) (gs : List ℕ) → ((g : ℕ) → In g gs → g < length (meanings s))
      → ((k : Kind) (x : ℕ) → Declares Γ k x → Declares Γ' k x) → All (Covered s rs Γ) gs
      → All (λ g. AllDeclared (Declares Γ') (world_of (rs ++ us) g) (row_text (s.definitions ++ new) (get_or (rs ++ us) g no_row))) gs
  module-stays new us Γ Γ' gs known f h =
      in_all _ gs λ g i. stays (Declares Γ') new us g (there g (known g i))
      (all-declared-more (Declares Γ) (Declares Γ') f (world_of rs g) (text_of s rs g) (all_in (Covered s rs Γ) gs h g i))

  same-stays : (new : List Added) (us : List Row) (M : Module) → IsOk (meanings s) w.runs M → All (Covered s rs M.context) M.definitions
      → All (λ g. AllDeclared (Declares M.context) (world_of (rs ++ us) g) (row_text (s.definitions ++ new) (get_or (rs ++ us) g no_row))) M.definitions
  same-stays new us M o h = module-stays new us M.context M.context M.definitions o.known (λ k x i. i) h

  covered-after : (f : Field) (k : ℕ) (p : Phase) (ms : List Module) (M : Module) (new : List Added) (us : List Row)
      → ((i : ℕ) → i < length us → AllDeclared AnyName (get_or us i no_row).world (row_text (s.definitions ++ new) (get_or us i no_row)))
      → All (Covered (after s f k p ms M new) (rs ++ us) M.context) M.definitions
      → All (λ M'. All (Covered (after s f k p ms M new) (rs ++ us) M'.context) M'.definitions) ms → AllCovered (after s f k p ms M new) (rs ++ us)
  covered-after f k p ms M new us n h e =
      record {
        all =
            get_d-more (λ D r. AllDeclared AnyName r.world (row_text (s.definitions ++ new) r)) rs us no_row
            (λ D l. row_stays AnyName (λ v. v) new D l (c.all D l)) n;
        current = h;
        ended =
            append-all _ s.ended ms
            (all_both (IsOk (meanings s) w.runs) (λ M. All (Covered s rs M.context) M.definitions) _ (same-stays new us) s.ended w.ended c.ended) e;
      }

  -- a field that adds no definition
  covered-plain : (f : Field) (k : ℕ) (p : Phase) (ms : List Module) (M : Module) → All (Covered (after s f k p ms M []) (rs ++ []) M.context) M.definitions
      → All (λ M'. All (Covered (after s f k p ms M []) (rs ++ []) M'.context) M'.definitions) ms → AllCovered (after s f k p ms M []) (rs ++ [])
  covered-plain f k p ms M h e = covered-after f k p ms M [] [] (λ i l. absurd (omega arith)) h e

  -- one that adds definitions to the module that is open, and entries
  covered-run : (f : Field) (k : ℕ) (new : List Added) (us : List Row) (Δ : Context) → length us ≡ length new
      → ((i : ℕ) → i < length us → AllDeclared (Declares (here s)) (get_or us i no_row).world (row_text (s.definitions ++ new) (get_or us i no_row)))
      → AllCovered (after s f k inside [] (with_more s.current Δ (numbers_from (length s.definitions) (length new))) new) (rs ++ us)
  covered-run f k new us Δ q n =
      covered-after f k inside [] (with_more s.current Δ (numbers_from (length s.definitions) (length new))) new us
      (λ i l. all-declared-more (Declares (here s)) AnyName (λ d x j. tt) (get_or us i no_row).world (row_text (s.definitions ++ new) (get_or us i no_row)) (n i l))
      (append-all _ s.current.definitions (numbers_from (length s.definitions) (length new))
      (module-stays new us (here s) (here s ++ Δ) s.current.definitions w.current.known (in-more (here s) Δ) c.current)
      (all-numbers _ (length s.definitions) (length new)
      (λ i l. subst (λ (r : Row). AllDeclared (Declares (here s ++ Δ)) r.world (row_text (s.definitions ++ new) r))
      (sym (get_or-append-add rs us i no_row) ∙ ap (λ (m : ℕ). get_or (rs ++ us) (m + i) no_row) (w.book.counted ∙ length-meanings s))
      (all-declared-more (Declares (here s)) (Declares (here s ++ Δ)) (in-more (here s) Δ) (get_or us i no_row).world (row_text (s.definitions ++ new) (get_or us i no_row)) (n i (omega arith)))))) tt

  source-covered : (m : ℕ) → All (Covered s rs (source s m).context) (source s m).definitions
  source-covered m = at (module_named s m) refl
    where
      at : (o : Option Module) → module_named s m ≡ o → All (Covered s rs (or_else no_module o).context) (or_else no_module o).definitions
      at none e = tt
      at (some M) e = (find-has (λ M. All (Covered s rs M.context) M.definitions) (λ (x : Module). eqb m x.name) s.ended M c.ended e).0

  -- EXTENDS
  module _ (fs : List Field) (o : Origins fs s) (ms : List ℕ) (once : repeats same_name (extended_context s ms (here s)) ≡ false) where
    extends-more : (ns : List ℕ) (gs : List ℕ) → ((m : ℕ) → Among m ns → Among m ms) → All (Covered s rs (extended_context s ms (here s))) gs
        → All (Covered s rs (extended_context s ms (here s))) (extended_definitions s ns gs)
    extends-more [] gs f h = h
    extends-more (n ∷ ns) gs f h =
        extends-more ns (union eqb gs (source s n).definitions) (λ m i. f m (inr i))
        (union-all (Covered s rs (extended_context s ms (here s))) eqb gs (source s n).definitions h
        (map-all (Covered s rs (source s n).context) (Covered s rs (extended_context s ms (here s)))
        (λ g d. all-declared-more (Declares (source s n).context) (Declares (extended_context s ms (here s))) (source_in fs s o ms once n (f n (inl refl))) (world_of rs g) (text_of s rs g) d)
        (source s n).definitions (source-covered n)))

    extended-covered : All (Covered s rs (extended_context s ms (here s))) (extended_definitions s ms s.current.definitions)
    extended-covered =
        extends-more ms s.current.definitions (λ m i. i)
        (map-all (Covered s rs (here s)) (Covered s rs (extended_context s ms (here s)))
        (λ g d. all-declared-more (Declares (here s)) (Declares (extended_context s ms (here s))) (here_in fs s o ms once) (world_of rs g) (text_of s rs g) d) s.current.definitions c.current)

  -- INSTANCE
  brought-covered : (n p m : ℕ) (ss : List Substitution) (g : ℕ) → In g (source s m).definitions
      → AllDeclared (Declares (here s)) (world_of rs g ++ (link_of s p m ss ∷ [])) (row_text (s.definitions ++ brought_all s n p (source s m) ss) (get_or rs g no_row))
  brought-covered n p m ss g i =
      row_stays (Declares (here s)) (λ v. v ++ (link_of s p m ss ∷ [])) (brought_all s n p (source s m) ss) g
      (there g ((source_ok (meanings s) w.runs s m w.ended).known g i))
      (all-declared-outer (Declares (here s)) (link_of s p m ss)
      (λ k x e. names_of (Declares (here s)) (λ h. In h s.current.definitions) (substitute s p (source s m) ss k x)
      (substitute-mentions s (λ h. In h s.current.definitions) w.current.names p (source s m) ss k x e))
      (world_of rs g) (text_of s rs g)
      (all-declared-more (Declares (source s m).context) (DeclaredBy (link_of s p m ss))
      (λ k x j. ap (map_option (λ (d : Kind × ℕ). d.0)) (kind-found (source s m).context k x j.0 j.1))
      (world_of rs g) (text_of s rs g) (all_in (Covered s rs (source s m).context) (source s m).definitions (source-covered m) g i)))

pub covered-add : (fs : List Field) (s : State) (rs : List Row) (f : Field) → Origins fs s → judge s f ≡ none → Worlds s rs → AllCovered s rs → AllCovered (add s f) (rows_after s rs f)
covered-add fs s rs (begin_module n) o j w c = covered-plain s rs w c (begin_module n) 0 begun [] (record { name = n; context = []; definitions = [] }) tt tt
covered-add fs s rs (extends m ms) o j w c =
    let Γ = extended_context s (m ∷ ms) (here s) in
    let ok = extended-ok (meanings s) w.runs w.book.disjoint s w.ended (m ∷ ms) (here s) s.current.definitions w.current in
    covered-plain s rs w c (extends m ms) 0 inside [] (extended_module s (m ∷ ms))
    (module-stays s rs w c [] [] Γ Γ (extended_definitions s (m ∷ ms) s.current.definitions) ok.known (λ k x i. i)
    (extended-covered s rs w c fs o (m ∷ ms) (clear-field s (extends m ms) j).1.1.0)) tt
covered-add fs s rs (declare_constant n k) o j w c =
    covered-run s rs w c (declare_constant n k) 1 [] [] (declares n (constant k) s.fields ∷ []) refl (λ i l. absurd (omega arith))
covered-add fs s rs (declare_variable n) o j w c =
    covered-run s rs w c (declare_variable n) 1 [] [] (declares n variable s.fields ∷ []) refl (λ i l. absurd (omega arith))
covered-add fs s rs (definition n p e) o j w c =
    covered-run s rs w c (definition n p e) 0 (own_one s n p e ∷ []) (new_rows s rs (definition n p e)) (defines n (length s.definitions) ∷ []) refl row
  where
    row : (i : ℕ) → i < 1
        → AllDeclared (Declares (here s)) (get_or (new_rows s rs (definition n p e)) i no_row).world
        (row_text (s.definitions ++ (own_one s n p e ∷ [])) (get_or (new_rows s rs (definition n p e)) i no_row))
    row zero l =
        subst (λ (d : Added). AllDeclared (Declares (here s)) [] (body_of d.meaning))
        (sym (get_or-append-add s.definitions (own_one s n p e ∷ []) 0 no_definition) ∙ ap (λ (i : ℕ). get_or (s.definitions ++ (own_one s n p e ∷ [])) i no_definition) (omega arith)) (
          names_of (Declares (here s)) (λ h. In h s.current.definitions) (resolve s (here s) e)
              (resolve-mentions s (here s) (λ h. In h s.current.definitions) w.current.names e),
          tt,
        )
    row (suc i) l = absurd (omega arith)
covered-add fs s rs (instance n p m ss) o j w c =
    covered-run s rs w c (instance n p m ss) 0 (brought_all s n p (source s m) ss) (brought_rows s rs p m ss) (brought_entries s n (brought_all s n p (source s m) ss))
    (length-map (source s m).definitions (λ g. brought_row (link_of s p m ss) (get_or rs g no_row)) ∙ sym (length-new s rs w n p m ss))
    (brought-rows s rs p m ss (λ r. AllDeclared (Declares (here s)) r.world (row_text (s.definitions ++ brought_all s n p (source s m) ss) r)) (brought-covered s rs w c n p m ss))
covered-add fs s rs end_module o j w c =
    covered-plain s rs w c end_module 0 outside (s.current ∷ []) no_module tt (same-stays s rs w c [] [] s.current w.current c.current, tt)
covered-add fs s rs (assume e) o j w c = covered-plain s rs w c (assume e) 0 inside [] s.current (same-stays s rs w c [] [] s.current w.current c.current) tt
covered-add fs s rs (theorem e) o j w c = covered-plain s rs w c (theorem e) 0 inside [] s.current (same-stays s rs w c [] [] s.current w.current c.current) tt

covered-adds : (fs gs : List Field) (s : State) (rs : List Row) → Clears s fs → Origins gs s → Worlds s rs → AllCovered s rs → AllCovered (adds s fs) (rows_of s rs fs)
covered-adds [] gs s rs j o w c = c
covered-adds (f ∷ fs) gs s rs j o w c =
    covered-adds fs (gs ++ (f ∷ [])) (add s f) (rows_after s rs f) j.1 (origins-add gs s f o) (worlds-add s rs f w) (covered-add gs s rs f o j.0 w c)

-- After fields that all clear: every definition's text, and every substitute along its chain of a name that the module instanced declares,
-- names only what is declared where it stands; for the definitions of a module, at the outer end, what that module declares.
pub texts-declared : (fs : List Field) → Clears start fs → AllCovered (adds start fs) (rows_of start [] fs)
texts-declared fs j = covered-adds fs [] start [] j no_fields worlds-start (record { all = λ D l. absurd (omega arith); current = tt; ended = tt })
