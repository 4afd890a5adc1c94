-- The calls of a list made one after another: what was done so far and what is left give the whole. Assumes nothing.
use Prim.Native.Nat.{ℕ, suc, ◌+◌, ◌-◌, ◌≤◌, ◌<◌}
use native.Mathlib.Omega.{arith}
use native.Mathlib.Numerals.{add-one}
use mathlib.Core.Path.{◌≡◌, refl, sym, ◌∙◌, ap, subst}
use mathlib.Core.List.{List, [], ◌∷◌, ◌++◌, map, append_assoc, append-nil, map-append}
use mathlib.Core.Option.{none}
use lib.ListN.{length, get_or, set, drop, length-append, length-map}
use lib.Seq.{drop-cons, set_at}
use Rattle.theory.specs.Book.{Answer}
use Rattle.table.specs.declared.Table.{Table}
use Rattle.table.specs.Clean.{empty_table}
use Rattle.history.specs.Calls.{Call}
use Rattle.history.specs.Claim.{Step, Trace, stop, call, History, book_answers}
use Rattle.history.proofs.Sequence.{history}
use Rattle.history_words.specs.Encoding.{placed, decode, calls_in, loaded_files, written}
use Rattle.history_words.proofs.Reading.{decode-over, decode-next}
use Rattle.history_words.proofs.Written.{decode-written}
use Rattle.history_replay.specs.declared.Replayed.{Replayed}
use Rattle.history_replay.specs.Replays.{encode, Replays, ReplaysCalls}
use Rattle.history_replay.specs.Steps.{CallMade}

-- One call more at the end.
trace-more :
    {t u v : Table} {c : Call} {x : Answer} {cs : List Call} {xs : List Answer} → Trace t cs xs u → Step u c x v
    → Trace t (cs ++ (c ∷ [])) (xs ++ (x ∷ [])) v
trace-more stop s = call s stop
trace-more (call w rest) s = call w (trace-more rest s)

-- After count calls, at a place of the list: these were made, and the rest of the list is still to be read.
pub record Going (ws files before : List ℕ) (at count : ℕ) (t : Table) (now : List ℕ) : Type 0 where
  pub done : List Call
  pub told : List Answer
  pub trace : Trace empty_table done told t
  pub calls : length done ≡ count
  pub answers : length told ≡ count
  pub room : count ≤ length before
  pub left : calls_in ws files before ≡ done ++ decode (length before - count) ws files at
  pub buffer : now ≡ map encode told ++ drop count before

pub going_start : (ws files before : List ℕ) (t : Table) → t ≡ empty_table → Going ws files before 0 0 t before
going_start ws files before t e = record {
  done = [];
  told = [];
  trace = subst (λ (u : Table). Trace empty_table [] [] u) (sym e) stop;
  calls = refl;
  answers = refl;
  room = omega arith;
  left = (let z : length before ≡ length before - 0 = omega arith in ap (λ (k : ℕ). decode k ws files 0) z);
  buffer = refl;
}

module _
    (ws files before : List ℕ) (at count : ℕ) (t : Table) (now : List ℕ)
    (G : Going ws files before at count t now) where
  pub going-length : length now ≡ length before
  going-length =
      ap length G.buffer ∙ length-append (map encode G.told) (drop count before)
      ∙ omega (arith, G.answers, G.room, length-map G.told encode, length-dropped)
    where
      length-dropped : length (drop count before) ≡ length before - count
      length-dropped = lib.ListN.length-drop count before

  pub going_next :
      (answer behind : ℕ) (u : Table) → count < length before → CallMade ws files at t answer behind u
      → Going ws files before behind (count + 1) u (set now count answer)
  going_next answer behind u l m = record {
    done = G.done ++ (m.call ∷ []);
    told = G.told ++ (m.told ∷ []);
    trace = trace-more G.trace m.step;
    calls = length-append G.done (m.call ∷ []) ∙ omega (arith, G.calls);
    answers = length-append G.told (m.told ∷ []) ∙ omega (arith, G.answers);
    room = omega arith;
    left =
        let q : length before - count ≡ suc (length before - (count + 1)) = omega arith in
        G.left
        ∙ ap (λ (zs : List Call). G.done ++ zs)
        (ap (λ (k : ℕ). decode k ws files at) q ∙ decode-next (length before - (count + 1)) ws files at _ m.stands)
        ∙ sym (append_assoc G.done (m.call ∷ []) (decode (length before - (count + 1)) ws files behind));
    buffer =
        let d : drop count before ≡ get_or before count 0 ∷ drop (count + 1) before =
        drop-cons before count 0 l ∙ ap (λ (k : ℕ). get_or before count 0 ∷ drop k before) (sym (add-one count)) in
        ap (λ (zs : List ℕ). set zs count answer) (G.buffer ∙ ap (λ (zs : List ℕ). map encode G.told ++ zs) d)
        ∙ set_at (map encode G.told) (get_or before count 0) (drop (count + 1) before) answer count
        (length-map G.told encode ∙ G.answers)
        ∙ ap (λ (k : ℕ). map encode G.told ++ (k ∷ drop (count + 1) before)) m.number
        ∙ sym (ap (λ (zs : List ℕ). zs ++ drop (count + 1) before) (map-append encode G.told (m.told ∷ []))
        ∙ append_assoc (map encode G.told) (encode m.told ∷ []) (drop (count + 1) before));
  }

  -- Where no call is left, the calls made are all that the list holds: the trace so far is theirs, and demand 3 speaks
  -- of it.
  finished :
      decode (length before - count) ws files at ≡ []
      → Replays ws files before (record { count = count; table = t }) now
  finished e =
      let whole : calls_in ws files before ≡ G.done = G.left ∙ ap
      (λ (zs : List Call). G.done ++ zs) e ∙ append-nil G.done in
      record {
        told = G.told;
        claim = subst (λ (cs : List Call). History cs G.told t) (sym whole)
            (history G.done G.told t G.trace);
        count = sym G.calls ∙ ap length (sym whole);
        written = G.buffer;
      }

  pub going-over :
      (u : Table) → placed ws files at ≡ none → u ≡ t
      → Replays ws files before (record { count = count; table = u }) now
  going-over u e same =
      subst (λ (v : Table). Replays ws files before (record { count = count; table = v }) now) (sym same)
      (finished (decode-over (length before - count) ws files at e))

  pub going-full : length before ≤ count → Replays ws files before (record { count = length now; table = t }) now
  going-full l =
      let z : length before - count ≡ 0 = omega arith in
      let all : count ≡ length now = omega (arith, going-length, G.room) in
      subst (λ (n : ℕ). Replays ws files before (record { count = n; table = t }) now) all
      (finished (ap (λ (k : ℕ). decode k ws files at) z ∙ (unfold decode in refl)))

-- So `replay` can be asked for any list of calls: its words are read as this list (`decode-written`), and the answers
-- that the claim speaks of are the book's.
pub replay-written :
    (cs : List Call) {before after : List ℕ} {r : Replayed} → length cs ≤ length before
    → Replays (written cs) (loaded_files cs) before r after → ReplaysCalls cs before r after
replay-written cs {before} {after} {r} l R =
    let same = decode-written cs before l in
    let claim : History cs R.told r.table =
    subst (λ (ds : List Call). History ds R.told r.table) same R.claim in
    let count : r.count ≡ length cs = R.count ∙ ap length same in
    record {
      claim = subst (λ (ys : List Answer). History cs ys r.table) claim.answered claim;
      count = count;
      told = R.written ∙ ap (λ (ys : List Answer). map encode ys ++ drop r.count before) claim.answered
          ∙ ap (λ (k : ℕ). map encode (book_answers cs) ++ drop k before) count;
    }
