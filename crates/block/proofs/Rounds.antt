-- Laws of one round, from what it loads.
use Rattle.std.proofs.Common.{◌≡◌, ℕ, Bool, true, false, cond, List, ap, ◌∙◌, Ok, Err}
use Rattle.code.specs.declared.Form.{Form}
use Rattle.memory.specs.Access.{Loaded, load_of}
use Rattle.answer.specs.declared.MissingByte.{MissingByte}
use Rattle.answer.specs.declared.Why.TheVariants as why
use Rattle.state.specs.declared.State.{State}
use Rattle.operand.specs.Try.{Try, did, no, with_loaded}
use Rattle.operand.specs.Operand.{pointer_of, storing}
use Rattle.block.specs.Block.{copied, compared, round_of}

module _ (f : Form) (s : State) (ram rom : List ℕ) where
  abbrev stores_with : ℕ → Try
  stores_with v = storing (copied f s) ram rom (pointer_of s f.to) f.size v

  abbrev with_value : ℕ → Try
  with_value v = cond f.copies (stores_with v) (did (compared f v s) ram)

  abbrev element : Loaded
  element = load_of ram rom (pointer_of s f.from) f.size

  pub round_copies : (v : ℕ) → element ≡ Ok v → f.copies ≡ true → round_of f s ram rom ≡ stores_with v
  unfolding round_of
  round_copies v e c = ap (λ (l : Loaded). with_loaded l with_value) e ∙ ap (λ (b : Bool). cond b (stores_with v) (did (compared f v s) ram)) c

  pub round_compares : (v : ℕ) → element ≡ Ok v → f.copies ≡ false → round_of f s ram rom ≡ did (compared f v s) ram
  unfolding round_of
  round_compares v e c = ap (λ (l : Loaded). with_loaded l with_value) e ∙ ap (λ (b : Bool). cond b (stores_with v) (did (compared f v s) ram)) c

  pub round_missing : (x : MissingByte) → element ≡ Err x → round_of f s ram rom ≡ no (why.Missing x.0)
  unfolding round_of
  round_missing x e = ap (λ (l : Loaded). with_loaded l with_value) e
