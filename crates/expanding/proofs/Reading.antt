-- The reply to an expression that was read: one lemma for each way through the code.
use Rattle.std.specs.Prelude.{Option, None, Some, Result}
use mathlib.Core.Bool.{false, true}
use mathlib.Core.List.{List}
use mathlib.Core.Path.{◌∙◌, ◌≡◌, refl, subst, sym}
use Prim.Native.Nat.{ℕ, ◌<◌, ◌≤◌}
use lib.ListN.{length}
use native.Mathlib.Omega.{arith}
use Rattle.store.specs.declared.Store.{Store}
use Rattle.limits.specs.Limits.{file_bytes, max_arity}
use Rattle.context.specs.Entries.{codes_of}
use Rattle.context.specs.declared.Counts.{Counts}
use Rattle.templates.specs.Shaped.{DefinitionsShaped}
use Rattle.templates.specs.Taking.{work_bytes}
use Rattle.tokens.proofs.Writing.{Bytes}
use Rattle.asking.specs.Asks.{limit_cause}
use Rattle.query_strings.specs.Read.{QueryKept, QueryLength, QueryRead}
use Rattle.query_strings.specs.declared.Queried.{Queried}
use Rattle.expanding.proofs.Answering.{query-over, query-short, query-whole}
use Rattle.expanding.proofs.Replying.{reply-cause, reply-clear, reply-passed}
use Rattle.expanding.specs.Asks.{ReadReplies, RepliesIn, RepliesTo, read_cause}
use Rattle.expanding.specs.Held.{StringReplies}
use Rattle.refusals.specs.declared.Refusal.{Refusal}
use Rattle.refusals.specs.Outcomes.{refused}

-- a limit is passed
pub read-passed : (file refs : List ℕ) (v : Store) (c : Counts) (expr : List ℕ) → Bytes expr → (q : Option Queried) (shapes a : List ℕ) (k : ℕ) → q ≡ None
    → k ≡ limit_cause expr → (out : List ℕ) → ReadReplies file refs v c expr q shapes a (refused k c.fields) out out
read-passed file refs v c expr bytes q shapes a k none is-k out =
    rw none
    record { reply = λ m n short few shaped read. reply-passed file refs v c m n expr bytes out few read k is-k }

module _ (file refs : List ℕ) (v : Store) (c : Counts) (expr : List ℕ) (bytes : Bytes expr) (o : Option Queried) (q : Queried) (there : o ≡ Some q)
    (shapes a : List ℕ) (k : ℕ) (is-k : k ≡ read_cause expr q) where
  pub read-refused : (k ≡ 0 → ⊥) → (out : List ℕ) → ReadReplies file refs v c expr o shapes a (refused k c.fields) out out
  read-refused h out =
      rw there
      record { reply = λ m n short few shaped read. reply-cause file refs v c m n expr bytes out few shapes a q read k is-k h }

  module _ (none : k ≡ 0) where
    module _ (m n : ℕ) (short : length file ≤ file_bytes) (few : n ≤ max_arity) (shaped : DefinitionsShaped file refs v v.declared c.declarations c.definitions shapes)
        (read : QueryKept expr v.names v.facts (codes_of v m) v.declared shapes n a work_bytes q) where
      abbrev Length : Option ℕ → Type 0
      Length l = QueryLength expr v.names v.facts (codes_of v m) v.declared shapes a work_bytes l

      length-of : (l : Option ℕ) → q.len ≡ l → Length l
      length-of l e = subst Length e read.string

      clear : (r : Result ℕ Refusal) (out out' : List ℕ) → RepliesTo file refs v c m expr r out out' → RepliesIn file refs v c m n expr r out out'
      clear r out out' to = reply-clear file refs v c m n expr bytes out few shapes a q read (sym is-k ∙ none) r out' to

    pub read_short : q.len ≡ None → (out : List ℕ) → ReadReplies file refs v c expr o shapes a (refused 18 0) out out
    read_short f out =
        rw there
        record {
          reply = λ m n short few shaped read.
              clear m n short few shaped read (refused 18 0) out out
              (query-short file refs v c m expr shapes a work_bytes false 0 short shaped (length-of m n short few shaped read None f 0) refl (omega arith) out);
        }

    module _ (len : ℕ) (f : q.len ≡ Some len) where
      -- A string that fits is no longer than the memory.
      pub read-over : work_bytes < len → (out : List ℕ) → ReadReplies file refs v c expr o shapes a (refused 18 0) out out
      read-over over out =
          rw there
          record {
            reply = λ m n short few shaped read.
                clear m n short few shaped read (refused 18 0) out out
                (query-over file refs v c m expr shapes a work_bytes true len short shaped (length-of m n short few shaped read (Some len) f) refl over out);
          }

      pub read_whole : (r : Result ℕ Refusal) (out out' : List ℕ) → StringReplies file refs v v.declared c.declarations shapes a len r out out'
          → ReadReplies file refs v c expr o shapes a r out out'
      read_whole r out out' replies =
          rw there
          record {
            reply = λ m n short few shaped read.
                clear m n short few shaped read r out out'
                (query-whole file refs v c m expr shapes a work_bytes true len short shaped (length-of m n short few shaped read (Some len) f) refl r out out' replies);
          }

pub reply-read : (file refs : List ℕ) (v : Store) (c : Counts) (m n : ℕ) (expr : List ℕ) (q : Option Queried) (shapes a : List ℕ) (r : Result ℕ Refusal)
    (out out' : List ℕ) → ReadReplies file refs v c expr q shapes a r out out' → length file ≤ file_bytes → n ≤ max_arity
    → DefinitionsShaped file refs v v.declared c.declarations c.definitions shapes → (room : ℕ) → room ≡ work_bytes
    → QueryRead expr v.names v.facts (codes_of v m) v.declared shapes n a room q
    → RepliesIn file refs v c m n expr r out out'
reply-read file refs v c m n expr q shapes a r out out' replies short few shaped room e read =
    replies.reply m n short few shaped (subst (λ (x : ℕ). QueryRead expr v.names v.facts (codes_of v m) v.declared shapes n a x q) e read)
