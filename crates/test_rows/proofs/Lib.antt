mod RowCounts
