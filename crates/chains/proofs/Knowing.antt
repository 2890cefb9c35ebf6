-- What is known of a text or a substitute that the store shows, where its term is well formed and names only what its module has.
use mathlib.Core.List.{List}
use mathlib.Core.Path.{◌≡◌, ap, refl, subst, sym}
use lib.ListN.{get_or}
use Prim.Native.Nat.{◌<◌, suc, zero, ℕ}
use Rattle.limits.specs.Limits.{max_definitions}
use Rattle.theory.specs.Expand.{params_from}
use Rattle.theory.specs.Term.{Arities, Fits, Kind, Term, WellFormed, kind_arity}
use Rattle.theory.specs.Tree.{count}
use Rattle.texts.specs.Text.{Declarations, ref_head}
use Rattle.store.specs.declared.Store.{Store}
use Rattle.worlds.specs.World.{AnyName, Declared, Names, Uses, World}
use Rattle.entering.specs.declared.substitutes.Site.{Site}
use Rattle.std.specs.Prelude.{Option as Answer, Some, None}
use Rattle.entering.specs.Implied.{implied_ref}
use Rattle.entering.proofs.Joining.{ImpliedText, Known, WrittenText}
use Rattle.standing.specs.Shown.{ImpliedShown, StandsFor, TextShown}
use Rattle.chains.specs.Walk.{around_link}
use Rattle.chains.proofs.Naming.{Numbered, resolved, text-names}
use Rattle.chains.proofs.Places.{InModule}

-- the definitions that the text of the world may name
abbrev pub DefinedIn : World → ℕ → Type 0
DefinedIn w h = (h < max_definitions) × InModule w h

-- and the declarations, by number
abbrev pub NamedIn : Declarations → World → ℕ → Type 0
NamedIn decls w = Numbered decls (Declared AnyName w)

-- a term that may stand in the module of the world, over n parameters
pub record FormedIn (ar : Arities) (w : World) (n : ℕ) (u : Term) : Type 0 where
  pub formed : WellFormed ar n 0 u
  pub names : Names (Declared AnyName w) u
  pub uses : Uses (DefinedIn w) u

count-params : (i p : ℕ) → count (params_from i p) ≡ p
count-params i zero = refl
count-params i (suc p) = ap suc (count-params (suc i) p)

module _ (file refs : List ℕ) (v : Store) (decls : Declarations) (end : ℕ) (ar : Arities) (w : World) (numbers inner : List ℕ) where
  pub written_known : (n at : ℕ) (u : Term) → FormedIn ar w n u → TextShown file refs decls end at u
      → WrittenText (around_link file refs v numbers inner) decls (NamedIn decls w) (DefinedIn w) ar n at u
  written_known n at u p t =
      record {
        text = t.text;
        next = t.next;
        stands = t.stands;
        kept = t.kept;
        names =
            text-names refs decls (Declared AnyName w) (DefinedIn w) t.text t.below
            (subst (Names (Declared AnyName w)) (sym t.same) p.names) (subst (Uses (DefinedIn w)) (sym t.same) p.uses);
        formed = subst (WellFormed ar n 0) (sym t.same) p.formed;
        same = t.same;
      }

  pub implied-known : (n owner p : ℕ) (k : Kind) (x : ℕ) (u : Term) → FormedIn ar w n u → ImpliedShown v decls owner p k x u
      → ImpliedText decls (NamedIn decls w) (DefinedIn w) ar n p k (implied_ref v.names v.facts v.contexts v.heads owner x) u
  implied-known n owner p k x u q i =
      let r : ℕ = implied_ref v.names v.facts v.contexts v.heads owner x in
      let f = subst (WellFormed ar n 0) (sym i.same) q.formed in
      let a = subst (Names (Declared AnyName w)) (sym i.same) q.names in
      let b = subst (Uses (DefinedIn w)) (sym i.same) q.uses in
      record {
        resolved = resolved refs decls (Declared AnyName w) (DefinedIn w) r 0 (count (params_from p (kind_arity k))) i.below a.0 b.0;
        fits = subst (Fits ar n 0 (ref_head decls r)) (count-params p (kind_arity k)) f.0;
        same = i.same;
      }

  -- either, for the declaration of that name, whose code is o
  pub stands-known : (site : Site) (n : ℕ) (k : Kind) (x o : ℕ) (u : Term) → get_or v.names o 0 ≡ x → FormedIn ar w n u → (y : Answer ℕ)
      → StandsFor v file refs decls end site.owner site.params k x u y
      → Known (around_link file refs v numbers inner) site decls (NamedIn decls w) (DefinedIn w) ar n k o u y
  stands-known site n k x o u e p (Some at) h = written_known n at u p h
  stands-known site n k x o u e p None h =
      subst (λ (z : ℕ). ImpliedText decls (NamedIn decls w) (DefinedIn w) ar n site.params k (implied_ref v.names v.facts v.contexts v.heads site.owner z) u) (sym e)
      (implied-known n site.owner site.params k x u p h)
