-- What a schedule is: tasks, demands, runs, and the rule that a run follows. Quotations are from document 01.
use Rattle.std.specs.Prelude.{◌≡◌, List, cond, ℕ, suc, ◌*◌, ◌/◌, ◌%◌, ◌≤◌, ◌<◌, eqb, length, get_or}
use Rattle.theory.specs.declared.Task.{Task}
use Rattle.arith.specs.Ranges.{sum}

-- A place of a sheet that holds no task.
abbrev pub none : Task
none = record { period = 0; budget = 0; rank = 0 }

-- "A task has a period T, a budget C and a rank." Task i of the list ts has these.
abbrev pub period : List Task → ℕ → ℕ
period ts i = (get_or ts i none).period

abbrev pub budget : List Task → ℕ → ℕ
budget ts i = (get_or ts i none).budget

abbrev pub rank : List Task → ℕ → ℕ
rank ts i = (get_or ts i none).rank

-- "Job k of a task is released at k·T, k = 0, 1, 2 and so on."
abbrev pub release : List Task → ℕ → ℕ → ℕ
release ts i k = k * period ts i

-- Periods and budgets are at least 1, and "ranks on a sheet differ".
pub record Proper (ts : List Task) : Type 0 where
  pub period_positive : (i : ℕ) → i < length ts → 0 < period ts i
  pub budget_positive : (i : ℕ) → i < length ts → 0 < budget ts i
  pub ranks_differ : (i j : ℕ) → i < length ts → j < length ts → rank ts i ≡ rank ts j → i ≡ j

-- The demand of job k of task i, at d i k.
abbrev pub Demands : Type 0
Demands = ℕ → ℕ → ℕ

-- A job "needs a demand of 1 to C ticks".
pub record Within (ts : List Task) (d : Demands) : Type 0 where
  pub least_one : (i k : ℕ) → i < length ts → 1 ≤ d i k
  pub most_budget : (i k : ℕ) → i < length ts → d i k ≤ budget ts i

-- What the jobs of task i before job k need in all.
unfoldable pub need : Demands → ℕ → ℕ → ℕ
need d i k = sum k (d i)

-- The work of task i that is released at tick t: the demand of job t / T, if t is a multiple of T.
unfoldable pub released : List Task → Demands → ℕ → ℕ → ℕ
released ts d i t = cond (eqb (t % period ts i) 0) (d i (t / period ts i)) 0

-- The work of task i that is released before tick t.
unfoldable pub due : List Task → Demands → ℕ → ℕ → ℕ
due ts d i t = sum t (released ts d i)

-- What the processor does in a tick: nothing, or a task's job. A run says this for every tick.
pub data Slot : Type 0 where
  idle : Slot
  busy : ℕ → Slot

abbrev pub Run : Type 0
Run = ℕ → Slot

-- 1 in a tick of task i, else 0.
abbrev pub runs : ℕ → Slot → ℕ
runs i idle = 0
runs i (busy j) = cond (eqb j i) 1 0

-- The ticks before t in which task i runs.
unfoldable pub done : Run → ℕ → ℕ → ℕ
done run i t = sum t (λ x. runs i (run x))

-- At tick t task i has a "released, unfinished job".
abbrev pub Pending : List Task → Demands → Run → ℕ → ℕ → Type 0
Pending ts d run i t = done run i t < due ts d i (suc t)

-- "At each tick the processor runs the released, unfinished job of greatest rank. Jobs of one task run in release order.
-- With no such job the tick is idle." The ticks of a task go to its jobs in release order, as `Starts` and `Finishes` count them.
pub record Schedule (ts : List Task) (d : Demands) (run : Run) : Type 0 where
  pub runs_known : (t i : ℕ) → run t ≡ busy i → i < length ts
  pub runs_pending : (t i : ℕ) → run t ≡ busy i → Pending ts d run i t
  pub runs_greatest : (t i j : ℕ) → run t ≡ busy i → j < length ts → Pending ts d run j t → rank ts j ≤ rank ts i
  pub idle_empty : (t j : ℕ) → run t ≡ idle → j < length ts → ¬ (Pending ts d run j t)

-- "A job starts at the first tick it runs": at t its task runs, and has done exactly the jobs before this one.
pub record Starts (d : Demands) (run : Run) (i k t : ℕ) : Type 0 where
  pub runs_first : run t ≡ busy i
  pub done_before : done run i t ≡ need d i k

-- "It finishes at its last tick plus one": in the tick before f its task runs, and by f has done exactly this job and those before it.
pub record Finishes (d : Demands) (run : Run) (i k f : ℕ) : Type 0 where
  pub last : ℕ
  pub is_next : f ≡ suc last
  pub runs_last : run last ≡ busy i
  pub done_by : done run i f ≡ need d i (suc k)
