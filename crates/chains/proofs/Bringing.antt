-- `brought`: the first definitions have their forms.
use mathlib.Core.List.{List}
use mathlib.Core.Logic.{◌⊎◌, ◌≢◌, inl, inr}
use mathlib.Core.Path.{◌∙◌, ◌≡◌, ap, refl, subst, sym}
use lib.ListN.{length}
use native.Mathlib.Decide.{ℕ_discrete}
use native.Mathlib.Omega.{arith}
use Prim.Native.Nat.{◌+◌, ◌<◌, ◌≤◌, ℕ}
use Rattle.limits.specs.Limits.{max_definitions}
use Rattle.theory.specs.Level.{IsLevel}
use Rattle.theory.specs.Lists.{All}
use Rattle.rules.specs.State.{State, card_level, params_of}
use Rattle.texts.specs.Text.{Declarations}
use Rattle.forms.specs.Forms.{form_at, level_at, stored}
use Rattle.forms.proofs.Tables.{load-other, load_same, stored-length}
use Rattle.levels.specs.Tables.{table_words}
use Rattle.store.specs.declared.Store.{Store}
use Rattle.context.specs.declared.Counts.{Counts}
use Rattle.worlds.specs.Rows.{Row}
use Rattle.chains.specs.Ready.{DeclaredForms, FormsBelow, Ready}
use Rattle.chains.specs.Results.{BroughtForms, FormBrought, FormOf, WorldForm}

module _ (file refs : List ℕ) (v : Store) (declared : List ℕ) (n : ℕ) where
  pub form-stored : (d : ℕ) (words : List ℕ) (f : ℕ) → WorldForm file refs words v declared n d f → length words ≡ table_words → d < max_definitions
      → FormBrought file refs v declared n d words (stored words d f)
  form-stored d words f form long h =
      record {
        size = stored-length words d f;
        form = subst (WorldForm file refs words v declared n d) (sym (load_same words d f (omega arith))) form;
        others = λ g q. load-other words d g f q;
      }

  pub bring-start : (first : ℕ) (words : List ℕ) → BroughtForms file refs v declared n first 0 words words
  bring-start first words =
      record {
        size = refl;
        others = λ g h. refl;
        right = λ c s rs decls end ready there below own. (λ g us h l a. below g us (omega arith) l a);
      }

  module _ (first i : ℕ) (words words' words'' : List ℕ) (x : BroughtForms file refs v declared n first i words words')
      (y : FormBrought file refs v declared n (first + i) words' words'') where
    not-here : (g : ℕ) → (g < first) ⊎ (first + (i + 1) ≤ g) → g ≢ first + i
    not-here g (inl h) = λ (q : g ≡ first + i). omega arith
    not-here g (inr h) = λ (q : g ≡ first + i). omega arith

    further : (g : ℕ) → (g < first) ⊎ (first + (i + 1) ≤ g) → (g < first) ⊎ (first + i ≤ g)
    further g (inl h) = inl h
    further g (inr h) = inr (omega arith)

    module _ (c : Counts) (s : State) (rs : List Row) (decls : Declarations) (end : ℕ) (ready : Ready file refs v declared n c s rs decls end)
        (there : first + (i + 1) ≤ c.definitions) (below : FormsBelow words s first) (own : DeclaredForms words decls) where
      before : FormsBelow words' s (first + i)
      before = x.right c s rs decls end ready (omega arith) below own

      declarations : DeclaredForms words' decls
      declarations = λ d us h l a. ap (λ (f : ℕ). level_at f us) (x.others (max_definitions + d) (inr (omega (arith, ready.few)))) ∙ own d us h l a

      here : FormOf s (first + i) (form_at words'' (first + i))
      here = y.form.right c s rs decls end ready (omega arith) before declarations

      by_number : (g : ℕ) (us : List ℕ) → g < first + (i + 1) → length us ≡ params_of s g → All IsLevel us → Dec (g ≡ first + i)
          → level_at (form_at words'' g) us ≡ card_level s g us
      by_number g us h l a (yes q) =
          ap (λ (m : ℕ). level_at (form_at words'' m) us) q ∙ here us (l ∙ ap (params_of s) q) a ∙ ap (λ (m : ℕ). card_level s m us) (sym q)
      by_number g us h l a (no q) = ap (λ (f : ℕ). level_at f us) (y.others g q) ∙ before g us (omega arith) l a

      forms : FormsBelow words'' s (first + (i + 1))
      forms g us h l a = by_number g us h l a (ℕ_discrete g (first + i))

    pub bring-turn : BroughtForms file refs v declared n first (i + 1) words words''
    bring-turn =
        record {
          size = y.size ∙ x.size;
          others = λ g h. y.others g (not-here g h) ∙ x.others g (further g h);
          right = forms;
        }

-- so far, the first i of them
pub record Brings (file refs : List ℕ) (v : Store) (declared : List ℕ) (n first count : ℕ) (words words' : List ℕ) (i : ℕ) : Type 0 where
  pub brought : BroughtForms file refs v declared n first i words words'
  pub few : i ≤ count

pub brings-start : (file refs : List ℕ) (v : Store) (declared : List ℕ) (n first count : ℕ) (words : List ℕ)
    → Brings file refs v declared n first count words words 0
brings-start file refs v declared n first count words = record { brought = bring-start file refs v declared n first words; few = omega arith }

pub brings-turn : (file refs : List ℕ) (v : Store) (declared : List ℕ) (n first count : ℕ) (words words' words'' : List ℕ) (i : ℕ)
    → Brings file refs v declared n first count words words' i → FormBrought file refs v declared n (first + i) words' words'' → i < count
    → Brings file refs v declared n first count words words'' (i + 1)
brings-turn file refs v declared n first count words words' words'' i x y h =
    record { brought = bring-turn file refs v declared n first i words words' words'' x.brought y; few = omega arith }

pub brings-whole : (file refs : List ℕ) (v : Store) (declared : List ℕ) (n first count : ℕ) (words words' : List ℕ) (i : ℕ)
    → Brings file refs v declared n first count words words' i → count ≤ i → BroughtForms file refs v declared n first count words words'
brings-whole file refs v declared n first count words words' i x k =
    let e : i ≡ count = omega (arith, x.few) in
    subst (λ (m : ℕ). BroughtForms file refs v declared n first m words words') e x.brought
