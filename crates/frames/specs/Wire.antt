-- The frames that a server sends while it streams (PostgreSQL manual: Message Formats, Streaming Replication Protocol).
use Rattle.std.specs.Prelude.{ℕ, ◌+◌, Bool, not, ◌&&◌, ◌||◌, ◌==◌, nat_lt, nat_le, if◌then◌else◌, List, [], ◌∷◌, ◌++◌, length, take, drop, slice_index, Option, Some, None, Result, Ok, Err}
use Rattle.std.specs.Int.{w32, w64, to_be_bytes, from_be_bytes}
use Rattle.frames.specs.declared.fault.FrameFault.{FrameFault}
use Rattle.frames.specs.declared.fault.FrameFault.TheVariants.{UnknownFrame, BadLength, TooLarge, UnknownCopyTag}
use Rattle.frames.specs.declared.item.CopyItem.{CopyItem}
use Rattle.frames.specs.declared.item.CopyItem.TheVariants.{Wal, Keepalive}

-- The tags of the frames: 'd', 'c', 'N', 'S' and 'E'.
abbrev pub copy_data : ℕ
copy_data = 100

-- the tag of CopyDone: 'c'
abbrev pub copy_done : ℕ
copy_done = 99

-- the tag of NoticeResponse: 'N'
abbrev pub notice_response : ℕ
notice_response = 78

-- the tag of ParameterStatus: 'S'
abbrev pub parameter_status : ℕ
parameter_status = 83

-- the tag of ErrorResponse: 'E'
abbrev pub error_response : ℕ
error_response = 69

-- What a CopyData frame carries: 'w' or 'k'.
abbrev pub xlog_data : ℕ
xlog_data = 119

-- the first byte of a Primary keepalive message: 'k'
abbrev pub keepalive : ℕ
keepalive = 107

-- an Int32, without its sign
unfoldable pub int32 : List ℕ → ℕ
int32 bytes = from_be_bytes w32 bytes

-- an Int64, without its sign
unfoldable pub int64 : List ℕ → ℕ
int64 bytes = from_be_bytes w64 bytes

-- the spelling of an Int32 and of an Int64
unfoldable pub spelled32 : ℕ → List ℕ
spelled32 n = to_be_bytes w32 n

-- the spelling of an Int64: eight bytes, the most significant first
unfoldable pub spelled64 : ℕ → List ℕ
spelled64 n = to_be_bytes w64 n

-- the n bytes at a place
abbrev pub bytes_at : ℕ → ℕ → List ℕ → List ℕ
bytes_at place n bytes = take n (drop place bytes)

-- Byte1 tag, Int32 length of the content and of itself, the content
abbrev pub tag_of : List ℕ → ℕ
tag_of frame = slice_index frame 0

-- the length in a frame's header: of itself and the content
abbrev pub length_of : List ℕ → ℕ
length_of frame = int32 (bytes_at 1 4 frame)

-- a frame's content, behind its tag and length
abbrev pub content_of : List ℕ → List ℕ
content_of frame = drop 5 frame

-- the tags that a server may send
abbrev pub is_tag : ℕ → Bool
is_tag tag = tag == copy_data || (tag == copy_done || (tag == notice_response || (tag == parameter_status || tag == error_response)))

-- A length isn't negative and counts itself. CopyData isn't empty, CopyDone is.
abbrev pub is_length : ℕ → ℕ → Bool
is_length tag len =
    nat_le 4 len && nat_lt len 2147483648 && not (tag == copy_data && nat_lt len 5) && not (tag == copy_done && not (len == 4))

-- what is wrong with a header, the first of these
unfoldable pub header_fault : ℕ → ℕ → Option FrameFault
header_fault tag len =
    if not (is_tag tag) then Some UnknownFrame
    else (if not (is_length tag len) then Some BadLength else (if nat_lt 67108864 len then Some TooLarge else None))

-- XLogData: Byte1 'w', Int64 start, Int64 end, Int64 clock, the data
abbrev pub wal_of : List ℕ → CopyItem
wal_of content = Wal (int64 (bytes_at 1 8 content)) (int64 (bytes_at 9 8 content)) (drop 25 content)

-- Primary keepalive: Byte1 'k', Int64 end, Int64 clock, Byte1 whether a reply is wanted
abbrev pub keepalive_of : List ℕ → CopyItem
keepalive_of content = Keepalive (int64 (bytes_at 1 8 content)) (not (slice_index content 17 == 0))

-- the item in the content of a CopyData frame
unfoldable pub copy_item : List ℕ → Result CopyItem FrameFault
copy_item content =
    if slice_index content 0 == xlog_data then (if nat_le 25 (length content) then Ok (wal_of content) else Err BadLength)
    else (if slice_index content 0 == keepalive then (if length content == 18 then Ok (keepalive_of content) else Err BadLength) else Err UnknownCopyTag)

-- The same frames as they are spelled: a tag, a length, the content.
abbrev pub spelled_frame : ℕ → List ℕ → List ℕ
spelled_frame tag content = tag ∷ [] ++ spelled32 (length content + 4) ++ content

-- the spelling of XLogData: 'w', start, end, clock, the data
abbrev pub spelled_wal : ℕ → ℕ → ℕ → List ℕ → List ℕ
spelled_wal start end clock payload = xlog_data ∷ [] ++ spelled64 start ++ spelled64 end ++ spelled64 clock ++ payload

-- the spelling of a Primary keepalive message: 'k', end, clock, whether a reply is wanted
abbrev pub spelled_keepalive : ℕ → ℕ → ℕ → List ℕ
spelled_keepalive end clock reply = keepalive ∷ [] ++ spelled64 end ++ spelled64 clock ++ reply ∷ []
