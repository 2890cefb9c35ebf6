-- One step of a rewriting, on terms: a call in a string is a call in its term; its text, arguments put in, takes its place.
use mathlib.Core.List.{List, ◌++◌, ◌∷◌}
use mathlib.Core.Option.{some}
use mathlib.Core.Path.{◌∙◌, ◌≡◌, ap, subst, sym}
use borrow.Author.Tests.{ltb-true}
use Prim.Native.Nat.{ℕ, ◌^◌, ◌<◌, ◌≤◌}
use Rattle.theory.proofs.Bytes.{bytes}
use Rattle.theory.proofs.Later.{every-weaken}
use Rattle.theory.proofs.Size.{sizes}
use Rattle.theory.specs.Expand.{put_in}
use Rattle.theory.specs.Level.{binds_in, plain}
use Rattle.theory.specs.Lists.{or_else}
use Rattle.theory.specs.Term.{Every, Everys, Fits, Head, Term, Terms, WellFormed, bound, builtin, declared, defined, eval, leaf, param, with_defined}
use Rattle.theory.specs.Tree.{count, node}
use Rattle.symbols.specs.Pieces.{ShapedHead}
use Rattle.symbols.specs.Spell.{alone_shape, mask_of, masked, max_params, spell}
use Rattle.symbols.specs.Symbol.{Symbol, call}
use Rattle.unfolding.proofs.CallsAt.{Calls, calls_at}
use Rattle.unfolding.proofs.Holes.{every-at, every-put, plug-same}
use Rattle.unfolding.proofs.Masks.{mask_below}
use Rattle.unfolding.proofs.Unfold.{put-calling, put-formed, unfold-same}
use Rattle.unfolding.specs.Hole.{Hole, bound_at, plug}
use Rattle.unfolding.specs.Right.{Calling}
use Rattle.unfolding.specs.Sense.{Callee, Right, Same, Sense, Stands}
use Rattle.worlds.proofs.Uses.{every-both}
use Rattle.worlds.specs.World.{AnyName, HeadMentions}

-- the shapes of a term's calls are right, so the run over its string counts right
module _ (g : Sense) (p : ℕ) (few : (k a : ℕ) → g.arity k ≡ some a → a ≤ max_params) where
  head-shaped : (k : ℕ) (h : Head) (m : ℕ) → Fits g.arity p k h m × HeadMentions AnyName (Right g) k h m → ShapedHead g.shape k h m
  head-shaped k (param i) m w = tt
  head-shaped k (bound j) m w = tt
  head-shaped k (declared d x) m w = tt
  head-shaped k (defined n) m w = (w.1.0.1 m w.0, few n m w.0)
  head-shaped k (builtin c) m w = w.0
  head-shaped k (leaf l) m w = tt

  pub stands-shaped : (t : Term) (k : ℕ) → WellFormed g.arity p k t → Calling (Right g) k t → Every (ShapedHead g.shape) k t
  stands-shaped t k w u = every-weaken _ (ShapedHead g.shape) head-shaped t k (every-both (Fits g.arity p) (HeadMentions AnyName (Right g)) t k w u)

-- the call after gs, its arguments, and the term with its text in its place
pub record Step (g : Sense) (p n m : ℕ) (T t : Term) (gs hs : List Symbol) : Type 0 where
  pub us : Terms
  pub ks : List Symbol
  pub number : count us ≡ m
  pub small : g.shape n < alone_shape
  pub bits : g.shape n < 2 ^ count us
  pub depth : ℕ
  pub shaped : Everys (ShapedHead g.shape) depth (binds_in plain) us
  pub rest : hs ≡ masked g.shape (g.shape n) us ++ ks
  pub next : Term
  pub same : Same g t next
  pub stands : Stands g p next
  pub spelt : spell g.shape next ≡ gs ++ (spell g.shape (put_in us T) ++ ks)

module _ (g : Sense) (p n m : ℕ) (T t : Term) (gs hs : List Symbol) (few : (k a : ℕ) → g.arity k ≡ some a → a ≤ max_params) (w : Stands g p t) (c : Callee g n m T)
    (e : spell g.shape t ≡ gs ++ (call n ∷ hs)) where
  at : Calls g.shape t gs n hs
  at = calls_at t g.shape gs n hs e

  old : Term
  old = node (defined n) at.us

  new : Term
  new = put_in at.us T

  pub step : Step g p n m T t gs hs
  unfolding at old new
  step =
      let c₀ = at in
      let us : Terms = c₀.us in
      let hole : Hole = c₀.hole in
      let k : ℕ = bound_at 0 hole in
      let formed : WellFormed g.arity p k old = every-at (Fits g.arity p) hole old 0 (subst (λ (u : Term). WellFormed g.arity p 0 u) c₀.whole w.formed) in
      let called : Calling (Right g) k old = every-at (HeadMentions AnyName (Right g)) hole old 0 (subst (λ (u : Term). Calling (Right g) 0 u) c₀.whole w.calls) in
      let number : count us ≡ m = ap (or_else 0) (sym formed.0 ∙ c.arity) in
      let small : g.shape n < alone_shape = ltb-true (g.shape n) alone_shape c₀.small in
      let bits : mask_of (g.shape n) < 2 ^ count us = called.0.0.1 (count us) formed.0 in
      record {
        us = us;
        ks = c₀.ks;
        number = number;
        small = small;
        bits = rw (mask_below (g.shape n) c₀.small) at bits;
        depth = k;
        shaped = (stands-shaped g p few old k formed called).1;
        rest = c₀.rest;
        next = plug hole new;
        same =
            record {
              as_bytes = λ ρ β. ap (eval (with_defined bytes g.as_bytes) ρ β) c₀.whole
                  ∙ plug-same (with_defined bytes g.as_bytes) hole old new
                  (λ ρ β. sym (unfold-same bytes g.as_bytes g.arity n m T c.stands.formed c.as_bytes us number ρ β)) ρ β;
              as_sizes = λ ρ β. ap (eval (with_defined sizes g.as_sizes) ρ β) c₀.whole
                  ∙ plug-same (with_defined sizes g.as_sizes) hole old new
                  (λ ρ β. sym (unfold-same sizes g.as_sizes g.arity n m T c.stands.formed c.as_sizes us number ρ β)) ρ β;
            };
        stands =
            record {
              formed =
                  every-put (Fits g.arity p) hole old new 0 (subst (λ (u : Term). WellFormed g.arity p 0 u) c₀.whole w.formed)
                  (put-formed g.arity p k m us T c.stands.formed number formed.1);
              calls =
                  every-put (HeadMentions AnyName (Right g)) hole old new 0 (subst (λ (u : Term). Calling (Right g) 0 u) c₀.whole w.calls)
                  (put-calling (Right g) g.arity k m us T c.stands.formed number c.stands.calls called.1);
            };
        spelt = c₀.spelt new;
      }
