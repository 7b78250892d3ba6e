-- What the entry's contract promises, in one statement: demand 1, an arena again, and demand 3, all about the answer and the cells that it leaves. Assumes nothing.
use mathlib.Core.Path.{◌≡◌, refl, sym, ap, ◌∙◌, subst}
use Prim.Native.Nat.{ℕ, ◌≤◌, ◌<◌}
use mathlib.Core.Bool.{Bool, true, false}
use mathlib.Core.Option.{some}
use mathlib.Core.List.{List}
use lib.ListN.{length}
use Rattle.arena.specs.Nodes.{mark, out}
use Rattle.arena.specs.Cells.{used, padded}
use Rattle.arena.specs.WellFormed.{formed, IsArena}
use Rattle.arena.proofs.Formed.{formed-arena}
use Rattle.instruction.specs.Instruction.{Instr}
use Rattle.table.specs.Call.{ok, refused, build, Lent, lent, call_on}
use Rattle.table.specs.Senses.{Sense, senses, sense_of}
use Rattle.table.specs.Answers.{Answer, found, reply_of, mark_after, Answered}
use Rattle.table.specs.Promises.{refusals, applies, Smallest, Exact, After, Meant, TypeBuilt}
use Rattle.table.proofs.Demand1.{demand_1, differ}
use Rattle.table.proofs.Entry.{not_formed}
use Rattle.table.proofs.Kept.{kept, demand_3_cells, demand_types_cells}
use Rattle.table.proofs.Once.{reply_once}

-- r is answered and the cells c' are left, on the cells c and the mark m
pub record Promise (c : List ℕ) (m : ℕ) (i : Instr) (r : Answer) (c' : List ℕ) : Type 0 where
  -- n is given exactly when it is the smallest number that applies, and changes no cell
  pub given : (n : ℕ) → reply_of r ≡ refused n → Smallest n (refusals c m i)
  pub gives : (n : ℕ) → Smallest n (refusals c m i) → reply_of r ≡ refused n
  pub unchanged : (n : ℕ) → reply_of r ≡ refused n → c' ≡ c
  -- where none applies, what is built
  pub accepted : ((n : ℕ) → applies n (refusals c m i) ≡ false)
      → let o = build (used c m) i in (r ≡ found o.at (mark o.arena)) × (c' ≡ padded (length c) o.arena)
  -- an accepted call leaves an arena of as many cells, in which the node built stands below the mark
  pub arena : (p n : ℕ) → r ≡ found p n → IsArena c m × (IsArena c' n × (length c' ≡ length c))
  pub meant : (p n : ℕ) → r ≡ found p n → 10 ≤ i.op → (s : Sense) → sense_of senses i.op ≡ some s → Meant (used c m) i s (out (used c' n) p)
  pub types : (p n : ℕ) → r ≡ found p n → i.op < 10 → TypeBuilt (used c m) (out (used c' n) p)

-- an arena that is not well formed is refused
accepted-formed : (c : List ℕ) (m : ℕ) (i : Instr) (p n : ℕ) → (call_on c m i).reply ≡ ok p n → IsArena c m
accepted-formed c m i p n z = go (formed c m) refl
  where
    go : (b : Bool) → formed c m ≡ b → IsArena c m
    go true f = formed-arena c m f
    go false f = differ (sym z ∙ ap (λ (l : Lent). l.reply) (not_formed c m i f))

-- the operands are as many as the count says, where the count is not refused by itself
pub promised : (c : List ℕ) (m : ℕ) (i : Instr) {r : Answer} {c' : List ℕ} → (i.count ≤ 257 → length i.operands ≡ i.count) → Answered c m i r c' → Promise c m i r c'
promised c m i {r} {c'} h e =
    record {
      given = λ n q. E.given n (sym e.0 ∙ q);
      gives = λ n s. e.0 ∙ E.gives n s;
      unchanged = λ n q. e.1 ∙ E.unchanged n (sym e.0 ∙ q);
      accepted = λ q. let a = E.accepted q in (reply_once r (found _ _) (e.0 ∙ ap (λ (l : Lent). l.reply) a), e.1 ∙ ap (λ (l : Lent). l.cells) a);
      arena = λ p n q.
          let A = accepted-formed c m i p n (says q) in
          let K = subst (After c m) (λ j. lent (sym e.0 j) (sym e.1 j)) (kept c m i h A) in
          (A, (subst (λ (x : Answer). IsArena c' (mark_after m (reply_of x))) q K.arena, K.long));
      meant = λ p n q k s t. let A = accepted-formed c m i p n (says q) in subst (λ (x : List ℕ). Meant (used c m) i s (out (used x n) p)) (sym e.1) (demand_3_cells c m i h A k p n (says q) s t);
      types = λ p n q k. let A = accepted-formed c m i p n (says q) in subst (λ (x : List ℕ). TypeBuilt (used c m) (out (used x n) p)) (sym e.1) (demand_types_cells c m i h A k p n (says q));
    }
  where
    E : Exact c m i
    E = demand_1 c m i

    says : {s : Answer} → r ≡ s → (call_on c m i).reply ≡ reply_of s
    says q = sym e.0 ∙ ap reply_of q
