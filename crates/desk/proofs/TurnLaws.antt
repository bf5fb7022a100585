-- What a frame leaves is what the listing shows of it and the table behind it; and the listing is made of such lines.
use mathlib.Core.Path.{◌≡◌, refl, sym, ◌∙◌, ap}
use mathlib.Core.Bool.{Bool, true, false}
use mathlib.Core.List.{List, [], ◌∷◌, ◌++◌, append_assoc}
use Prim.Native.Nat.{ℕ, ◌+◌, ◌-◌}
use lib.ListN.{length, length-replicate}
use Rattle.laws.specs.Bytes.{bytes}
use Rattle.laws.specs.Choose.{pick}
use Rattle.laws.specs.Lists.{byte_at}
use Rattle.laws.specs.Wrote.{Wrote}
use Rattle.response.specs.Outcomes.{is_success}
use Rattle.publish.specs.Refusals.{Case, outcome_of}
use Rattle.table.specs.Table.{Table}
use Rattle.table.specs.Handle.{Input, case_of, table_after, done_with, done}
use Rattle.table.specs.Read.{state_of}
use Rattle.listing.specs.Lent.{lent_buffer}
use Rattle.listing.specs.Frames.{Frame, adds, handles, bad, is_hex, hex_bytes, frame_of, line_frame}
use Rattle.listing.specs.Listing.{Shown as Said, outcome_text, shown_of, listing_from}
use Rattle.listing.specs.Witness.{name_from, default_from, is_reading, query_of, read_text, read_or, witness_text}
use Rattle.frames.specs.Lines.{line_bytes}
use Rattle.frames.specs.Shown.{shown_text, line_text}
use Rattle.frames.specs.declared.shown.Shown.{Shown}
use Rattle.frames.proofs.LineLaws.{line_frame_lem}
use Rattle.frames.proofs.WantedLaws.{reading_bad}
use Rattle.desk.specs.Left.{Left, left_by, LeftAs}
use Rattle.desk.specs.Told.{told_text}
use Rattle.desk.specs.Turned.{printed_for, table_behind, Turned}
use Rattle.desk.specs.declared.step.Step.{Step}

-- of the answer buffer only its length is looked at
same_case : (t : Table) (b : List ℕ) (x : Input) → length b ≡ 4608 → case_of t b x ≡ case_of t lent_buffer x
unfolding case_of lent_buffer
same_case t b x e = rw (e, length-replicate {A = ℕ} 4608 0)

-- what is shown of a frame, and the table behind it
abbrev said : Left → Said
said l = record { text = shown_text l.shown; table = l.table }

-- they are what the listing says
left_said : (t : Table) (b : List ℕ) (f : Frame) → length b ≡ 4608 → said (left_by t b f) ≡ shown_of t f
unfolding shown_text left_by shown_of done done_with
left_said t b (adds e) h = refl
left_said t b (handles x) h =
    ap (λ (c : Case). record { text = outcome_text (outcome_of c); table = pick (is_success (outcome_of c)) (table_after t c) t }) (same_case t b x h)
left_said t b bad h = refl

-- a line that is not so built leaves the table
behind_bad : (t : Table) (l : List ℕ) → line_frame l ≡ bad → table_behind t l ≡ t
unfolding table_behind shown_of
behind_bad t l e = rw (table_behind, e)

-- what the witness says of a line is what it says of its bytes
line_witness : (t : Table) (l : List ℕ) → read_or t (line_bytes l) (shown_of t (line_frame l)).text ≡ witness_text t l
unfolding witness_text line_bytes line_frame read_or is_reading default_from name_from byte_at shown_of
line_witness t l = go (is_hex l)
  where
    go : (b : Bool) → read_or t (pick b (hex_bytes l) []) (shown_of t (pick b (frame_of (hex_bytes l)) bad)).text
        ≡ pick b (read_or t (hex_bytes l) (shown_of t (frame_of (hex_bytes l))).text) (bytes "bad")
    go true = refl
    go false = refl

-- the table behind a line that is the witness's own frame is the one before it
own_same : (t : Table) (l x : List ℕ) → read_or (table_behind t l) (line_bytes l) x ≡ read_or t (line_bytes l) x
unfolding read_or
own_same t l x = go (is_reading (line_bytes l)) refl
  where
    read : Table → List ℕ
    read u = read_text (length (line_bytes l) - default_from (line_bytes l)) (state_of (query_of (line_bytes l)) u)

    go : (b : Bool) → is_reading (line_bytes l) ≡ b → pick b (read (table_behind t l)) x ≡ pick b (read t) x
    go true e = ap read (behind_bad t l (sym (line_frame_lem l) ∙ reading_bad (line_bytes l) e))
    go false e = refl

-- what is said of a line, over what the listing shows of it
told_said : (more : Bool) (t : Table) (l : List ℕ)
    → told_text more (table_behind t l) l (shown_of t (line_frame l)).text ≡ pick more (witness_text t l) (shown_of t (line_frame l)).text
unfolding told_text
told_said false t l = refl
told_said true t l = own_same t l (shown_of t (line_frame l)).text ∙ line_witness t l

-- a step, and what is said of the line put to a page, are a turn
pub turned : (more : Bool) (t : Table) (b l page : List ℕ) (n : ℕ) (r : Step) (t' : Table) (b' : List ℕ) (x : Shown) (page' : List ℕ) (e : ℕ)
    → LeftAs t b (line_frame l) r t' b' → length b ≡ 4608
    → shown_text x ≡ told_text more t' l (shown_text r.shown)
    → Wrote page 0 (line_text n x) page' e
    → Turned more t b l page n (record { length = r.length; end = e }) t' b' page'
unfolding LeftAs line_text printed_for table_behind
turned more t b l page n r t' b' x page' e w h k v =
    let s : said (record { shown = r.shown; length = r.length; table = t'; buffer = b' }) ≡ shown_of t (line_frame l) =
    ap said w ∙ left_said t b (line_frame l) h in
    let m : shown_text x ≡ pick more (witness_text t l) (shown_of t (line_frame l)).text =
    k ∙ ap (λ (y : Said). told_text more y.table l y.text) s ∙ told_said more t l in
    record {
      prints = rw m at v;
      leaves = ap (λ (y : Said). y.table) s;
      length = ap (λ (y : Left). y.length) w;
      answer = ap (λ (y : Left). y.buffer) w;
    }

-- the listing from a line on: what is printed for it, and the listing from the next
pub listing_next : (n : ℕ) (t : Table) (l : List ℕ) (ls : List (List ℕ))
    → listing_from n t (l ∷ ls) ≡ printed_for false n t l ++ listing_from (n + 1) (table_behind t l) ls
unfolding listing_from printed_for table_behind
listing_next n t l ls = simp append_assoc
