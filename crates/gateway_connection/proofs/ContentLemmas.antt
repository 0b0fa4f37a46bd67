-- Content that goes on: what is put of it, and what is read.
use Rattle.std.proofs.Common.{◌≡◌, ℕ, List, [], ◌∷◌, ◌++◌, length, drop, Option, Some, None, refl, ap, ◌∙◌}
use Rattle.{std.proofs.Common.{append_assoc, append-nil, sym}, http1.specs.Decoder.{Continues, with_front}}
use Rattle.http1.specs.{Fields.Header, Conn.{after_data, data_refusal, data_text, finish_refusal, finish_text}}
use Rattle.http1.specs.declared.{conn.Writing.Writing, decode.Decoder.Decoder, encode.Encoder.Encoder}
use Rattle.http1.{specs.Encoder.{after_piece, piece_text}, proofs.DecoderLemmas.Continues-live}
use Rattle.gateway_connection.specs.{Content.{after_pieces, pieces_text}, Exchanges.{IsFront, last_text}}
use Rattle.http1.specs.declared.conn.Writing.TheVariants as Writes

-- ---- what is put

pub pieces_text-append : (pieces : List (List ℕ)) (piece : List ℕ) (e : Encoder)
    → pieces_text (pieces ++ piece ∷ []) e ≡ pieces_text pieces e ++ piece_text (after_pieces pieces e) piece
pieces_text-append [] piece e = append-nil (piece_text e piece)
pieces_text-append (first ∷ pieces) piece e = ap (λ (t : List ℕ). piece_text e first ++ t)
    (pieces_text-append pieces piece (after_piece e (length first))) ∙ sym (append_assoc (piece_text e first) _ _)

pub after_pieces-append : (pieces : List (List ℕ)) (piece : List ℕ) (e : Encoder)
    → after_pieces (pieces ++ piece ∷ []) e ≡ after_piece (after_pieces pieces e) (length piece)
after_pieces-append [] piece e = refl
after_pieces-append (first ∷ pieces) piece e = after_pieces-append pieces piece (after_piece e (length first))

abbrev pub writing_at : Option (List Header) → Encoder → Writing
writing_at None e = Writes.Body e
writing_at (Some trailers) e = Writes.Done

-- a message that isn't ended takes a piece, or its end
module _ (head : List ℕ) (pieces : List (List ℕ)) (first : Encoder) (w : Writing) where
  abbrev pub text_at : List (List ℕ) → Option (List Header) → List ℕ
  text_at all t = head ++ (pieces_text all first ++ last_text (after_pieces all first) t)

  pub put_at : (t : Option (List Header)) (piece : List ℕ) → w ≡ writing_at t (after_pieces pieces first) → data_refusal
      w (length piece) ≡ None → (after_data w (length piece) ≡ writing_at t (after_pieces (pieces ++ piece ∷ []) first))
      × (text_at (pieces ++ piece ∷ []) t ≡ text_at pieces t ++ data_text w piece)
  put_at None piece is accepted = rw is (
    rw (after_pieces-append pieces piece first),
    simp (pieces_text-append, append-nil, append_assoc),
  )
  put_at (Some trailers) piece is accepted = absurd (cc (rw is at accepted))

  pub end_at : (t : Option (List Header)) (trailers : List Header) → w ≡ writing_at t (after_pieces pieces first)
      → finish_refusal w trailers ≡ None → text_at pieces (Some trailers) ≡ text_at pieces t ++ finish_text w trailers
  end_at None trailers is accepted = rw is (simp (append-nil, append_assoc))
  end_at (Some before) trailers is accepted = absurd (cc (rw is at accepted))

pub takes_data : (w : Writing) (n : ℕ) → data_refusal w n ≡ None → (e : Encoder) × (w ≡ Writes.Body e)
takes_data (Writes.Body e) n none = (e, refl)
takes_data w n none = absurd (cc)

pub takes_end : (w : Writing) (trailers : List Header) → finish_refusal w trailers ≡ None
    → (e : Encoder) × (w ≡ Writes.Body e)
takes_end (Writes.Body e) trailers none = (e, refl)
takes_end w trailers none = absurd (cc)

-- ---- what is read

-- the front of a body goes on
pub front_goes : {first d next : Decoder} {bytes unread content piece : List ℕ} {len : ℕ} → IsFront first bytes
    d unread content → Continues d unread next len piece → IsFront first bytes next (drop len unread) (content ++ piece)
front_goes {first} {d} {next} {bytes} {unread} {content} {piece} {len} x continues = record {
  live = Continues-live d next unread len piece continues;
  back = λ more body rest completes. rw (append_assoc content piece body.bytes)
      (x.back more (with_front piece body) rest (continues.back more body rest completes));
  forth = λ more whole rest completes.
      let f = x.forth more whole rest completes in
      let g = continues.forth more f.0 rest f.2 in
      (g.0, rw (append_assoc content piece g.0.bytes) (f.1 ∙ ap (with_front content) g.1), g.2);
}

-- and bytes follow it
pub front_grows : {first now : Decoder} {after unread content : List ℕ} (bytes : List ℕ)
    → IsFront first after now unread content → IsFront first (after ++ bytes) now (unread ++ bytes) content
front_grows {first} {now} {after} {unread} {content} bytes x = record {
  live = x.live;
  back = λ more body rest completes. rw (append_assoc after bytes more)
      (x.back (bytes ++ more) body rest (rw (append_assoc unread bytes more) at completes));
  forth = λ more whole rest completes. simp (append_assoc unread bytes more)
      (x.forth (bytes ++ more) whole rest (rw (append_assoc after bytes more) at completes));
}
