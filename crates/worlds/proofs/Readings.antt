-- Two readings more: the bytes and the length of what a definition expands to, from its original text in its world; and the linear forms of
-- lengths.
use mathlib.Core.List.{List, [], ◌++◌, ◌∷◌}
use mathlib.Core.Path.{◌∙◌, ◌≡◌, ap, refl, sym}
use lib.ListN.{length, length-replicate, replicate}
use native.Mathlib.Nat.{zero-add}
use Prim.Native.Nat.{◌<◌, suc, zero, ℕ}
use Rattle.laws.proofs.Invariant.{arity-known}
use Rattle.laws.proofs.Sound.{SoundFrom, all-formed}
use Rattle.rules.specs.State.{State, meanings, params_of, templates_of}
use Rattle.theory.proofs.Bytes.{Bytes, bytes, param_bytes, written}
use Rattle.theory.proofs.Demand3.{template-formed}
use Rattle.theory.proofs.ExpandFirst.{Keeps}
use Rattle.theory.proofs.Form.{Form, dot, dot-unit, form-carries, forms, only, plug, unit, value}
use Rattle.theory.proofs.Fusion.{Anything, anywhere}
use Rattle.theory.proofs.Size.{sizes, written-length}
use Rattle.theory.proofs.Write.{write}
use Rattle.theory.specs.Expand.{body_in}
use Rattle.theory.specs.Lists.{All}
use Rattle.theory.specs.Term.{Kind, Reading, WellFormed, eval, no_definitions}
use Rattle.worlds.proofs.File.{definition-in-world}
use Rattle.worlds.proofs.Forms.{FormLaws, definition-form}
use Rattle.worlds.proofs.Invariant.{Worlds}
use Rattle.worlds.specs.Forms.{Forms, RightForms, form_in}
use Rattle.worlds.specs.Rows.{Row, original, own_params, text_of, world_of}
use Rattle.worlds.specs.World.{AllDeclared, AnyName, meaning_in}

all-anything : {A : Type 0} (vs : List A) → All Anything vs
all-anything [] = tt
all-anything (v ∷ vs) = (tt, all-anything vs)

keeps-anything : {A : Type 0} (M : Reading A) → Keeps M Anything
keeps-anything M = record { on_declared = λ k x vs a. tt; on_defined = λ g vs a. tt; on_builtin = λ c args a. tt; on_leaf = λ n. tt; looks = anywhere M }

params-length : (i n : ℕ) → length (param_bytes i n) ≡ n
params-length i zero = refl
params-length i (suc n) = ap suc (params-length (suc i) n)

module _ (s : State) (rs : List Row) (w : Worlds s rs) (sound : SoundFrom [] s.definitions) (D : ℕ) (l : D < length s.definitions) where
  formed : WellFormed no_definitions (params_of s D) 0 (body_in (templates_of s) D)
  formed = template-formed (meanings s) (all-formed [] s.definitions sound) D (params_of s D) (arity-known s sound D l)

  -- the bytes of D's expansion
  pub bytes-in-world : (G : ℕ → List Bytes → Bytes) → ((g : ℕ) (vs : List Bytes) → g < D → length vs ≡ params_of s g → G g vs ≡ eval bytes vs [] (body_in (templates_of s) g))
      → write (body_in (templates_of s) D) ≡ meaning_in bytes G (world_of rs D) (text_of s rs D) (param_bytes 0 (params_of s D)) 0
  bytes-in-world G e =
      sym (written (body_in (templates_of s) D) (params_of s D) 0 formed)
      ∙ ap (λ (v : Bytes). v 0)
      (definition-in-world s rs w sound D l bytes Anything G (record { keeps = keeps-anything bytes; good = λ g vs a. tt; exact = λ g vs b q a. e g vs b q })
      (param_bytes 0 (params_of s D)) (params-length 0 (params_of s D)) (all-anything (param_bytes 0 (params_of s D))))

  -- and their number
  pub length-in-world : (G : ℕ → List ℕ → ℕ) → ((g : ℕ) (vs : List ℕ) → g < D → length vs ≡ params_of s g → G g vs ≡ eval sizes vs [] (body_in (templates_of s) g))
      → length (write (body_in (templates_of s) D)) ≡ meaning_in sizes G (world_of rs D) (text_of s rs D) (replicate (params_of s D) 2)
  length-in-world G e =
      written-length (body_in (templates_of s) D) (params_of s D) 0 formed
      ∙ definition-in-world s rs w sound D l sizes Anything G (record { keeps = keeps-anything sizes; good = λ g vs a. tt; exact = λ g vs b q a. e g vs b q })
      (replicate (params_of s D) 2) (length-replicate (params_of s D) 2) (all-anything (replicate (params_of s D) 2))

-- Linear forms: terms read as forms, with other forms put in for parameters; defined names are given by the world
abbrev pub lengths : Forms Form
lengths = record { reading = forms (λ g. only 0); put = plug; unit = unit }

pub length-laws : FormLaws sizes Anything lengths value
length-laws =
    record {
      keeps = keeps-anything sizes;
      carries = λ v a. form-carries v (λ g. only 0);
      at-put = λ f gs v a. (form-carries v (λ g. f)).on_defined 0 gs;
      at_unit = λ i v a l. zero-add (dot (replicate i 0 ++ (1 ∷ [])) v) ∙ dot-unit i v;
      good = λ f v a. tt;
    }

-- The linear form worked out from D's text in its world, by the forms of lower definitions and of the substitutes along the chain, gives the
-- length of D's expansion with arguments of any lengths put in.
pub length-form : (s : State) (rs : List Row) → Worlds s rs → SoundFrom [] s.definitions → (D : ℕ) → D < length s.definitions
    → (F : ℕ → Form) → ((g : ℕ) (v : List ℕ) → g < D → length v ≡ params_of s g → value (F g) v ≡ eval sizes v [] (body_in (templates_of s) g))
    → (Ss : List (Kind → ℕ → Form)) → RightForms lengths F (world_of rs D) Ss → AllDeclared AnyName (world_of rs D) (text_of s rs D) → (v : List ℕ) → length v ≡ params_of s D
    → value (form_in lengths F (world_of rs D) Ss (own_params (original s rs D)) (text_of s rs D)) v ≡ eval sizes v [] (body_in (templates_of s) D)
length-form s rs w sound D l F e Ss r d v q =
    definition-form sizes Anything lengths value length-laws s rs w sound D l F (λ g u b n a. e g u b n) Ss r d v q (all-anything v)
